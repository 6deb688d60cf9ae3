use Rattle.std.proofs.Common.{take, slice_index_or, arith}
use Rattle.std.proofs.lemmas.Bool.{false≢true}
use Rattle.std.proofs.lemmas.List.{take_all, take_more}
use Rattle.selftimed.specs.inside.EventQueues.{entry}
use Rattle.selftimed.proofs.CalendarsTellSoonest.{soonest-new, soonest-old}
use Rattle.selftimed.proofs.calendar.soonest_of.Goals.{then-is_sooner, else-is_sooner}
use Rattle.selftimed.proofs.calendar.soonest_of.Goals as goal

pub loop-end-preserved : goal.loop-end-preserved
loop-end-preserved c = rw (take_more c.args.ends.now c.loop-end.end-index (entry 0 0) c.loop-end-test.true) (
    elim c.if-is_sooner.branch [
      | then-is_sooner w ↦ rw w.soonest-is (soonest-new (take c.loop-end.end-index c.args.ends.now) c.loop-end.soonest (slice_index_or c.args.ends.now c.loop-end.end-index (entry 0 0)) (c.is_sooner.ensures.0 w.if-is_sooner.true) c.loop-end.invariant)
      | else-is_sooner w ↦ rw w.soonest-is (soonest-old (take c.loop-end.end-index c.args.ends.now) c.loop-end.soonest (slice_index_or c.args.ends.now c.loop-end.end-index (entry 0 0)) (λ h. false≢true (rw w.if-is_sooner.false at c.is_sooner.ensures.1 h)) c.loop-end.invariant)
    ])

pub returns : goal.returns
returns c = rw (take_all c.loop-end.end-index c.args.ends.now (omega (arith, c.loop-end-test.false))) at c.loop-end.invariant
