use Rattle.std.proofs.Common.{arith, ap, ◌∙◌, List, ℕ, length}
use Rattle.std.specs.Prelude.{slice_index_or}
use Rattle.report.specs.ScheduleTexts.{starts_line}
use Rattle.report.proofs.OneMoreElement.{lines_next, schedule_end}
use Rattle.report.proofs.schedules.put_schedule.Goals as goal

pub loop-i-preserved : goal.loop-i-preserved
loop-i-preserved c =
    let rows = c.args.schedule.now.starts in
    let row = c.starts-item.result in
    lines_next starts_line _ _ _ _ c.args.graph.now.actors c.as_slice-actors.result.now rows c.loop-i.i c.as_slice.result.now row c.index-actors-i.result
    (omega (arith, c.loop-i-test.true, c.requires, ap length c.as_slice-starts-items.ensures)) (omega (arith, c.loop-i-test.true, ap length c.as_slice-starts-items.ensures))
    c.as_slice-actors.ensures c.as_str.ensures (c.as_slice.ensures ∙ (c.starts-item.is ∙ ap (λ (xs : List (List ℕ)). slice_index_or xs c.loop-i.i row) c.as_slice-starts-items.ensures))
    c.loop-i.invariant c.in_ok-put_starts.ensures

pub returns : goal.returns
returns c =
    schedule_end c.args.graph.now c.args.schedule.now _ _ _ c.loop-i.i (omega (arith, c.loop-i-test.false, c.requires, ap length c.as_slice-starts-items.ensures)) c.in_ok-put_header.ensures c.loop-i.invariant
