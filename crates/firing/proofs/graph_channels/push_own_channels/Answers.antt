use Rattle.std.proofs.Common.{◌++◌, ◌∙◌, sym, map, arith}
use Rattle.sd_base.specs.FileNet.{own_channels_from}
use Rattle.firing.proofs.GraphTables.{own-pushed, own-passed}
use Rattle.firing.proofs.graph_channels.push_own_channels.Goals as goal
use Rattle.firing.proofs.graph_channels.push_own_channels.Goals.{then-gets_own_channel+in_ok-own+in_ok-push, else-gets_own_channel}

pub loop-i-preserved : goal.loop-i-preserved
loop-i-preserved g c =
    elim c.if-gets_own_channel.branch [
      | then-gets_own_channel+in_ok-own+in_ok-push w ↦ rw w.channels-is (own-pushed g.C.NetChannel.plain c.args.no_overlap c.args.graph.now.channels c.args.graph.now.actors c.loop-i.i c.index-as_slice-i.result
          c.loop-i.channels.items w.push.new.self.items w.in_ok-own.field-0
          (map g.C.NetChannel.plain c.args.channels.now.items ++ own_channels_from c.args.no_overlap c.args.graph.now.channels 0 c.args.graph.now.actors)
          (omega (arith, c.loop-i-test.true, c.len-i-end.ensures)) (rw c.as_slice.ensures at c.index-as_slice-i.is) (sym (rw (← c.index-as_slice-i.is) at c.gets_own_channel.ensures) ∙ w.if-gets_own_channel.true) w.in_ok-push.ensures.items
          (rw (← c.index-as_slice-i.is) at w.in_ok-own.ensures) c.loop-i.invariant)
      | else-gets_own_channel w ↦ rw w.channels-is (own-passed g.C.NetChannel.plain c.args.no_overlap c.args.graph.now.channels c.args.graph.now.actors c.loop-i.i c.index-as_slice-i.result c.loop-i.channels.items
          (map g.C.NetChannel.plain c.args.channels.now.items ++ own_channels_from c.args.no_overlap c.args.graph.now.channels 0 c.args.graph.now.actors)
          (omega (arith, c.loop-i-test.true, c.len-i-end.ensures)) (rw c.as_slice.ensures at c.index-as_slice-i.is) (sym (rw (← c.index-as_slice-i.is) at c.gets_own_channel.ensures) ∙ w.if-gets_own_channel.false) c.loop-i.invariant)
    ]
