use Rattle.gen_graph.proofs.MadeListsGrow.{channels_next, channels_end}
use Rattle.gen_graph.proofs.made.rows_behind.Goals as goal

pub loop-i-preserved : goal.loop-i-preserved
loop-i-preserved c =
    let one = c.requires.within c.loop-i.i (record { weight = 0; time = 0 }) c.loop-i-test.true in (
      channels_next c.args.rest.now c.loop-i.i c.loop-i.weight (record { weight = 0; time = 0 }) c.in_ok-channel_row.field-0 c.loop-i.rows c.push.new.self _
          c.loop-i-test.true c.in_ok-channel_row.ensures c.loop-i.invariant.0 c.in_ok-push.ensures.ok,
      one.some_weight,
      one.weight,
    )

pub returns : goal.returns
returns c = channels_end c.args.rest.now c.loop-i.i c.loop-i.weight c.loop-i.rows _ c.loop-i-test.false c.loop-i.invariant.0
