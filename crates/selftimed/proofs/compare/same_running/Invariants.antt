use Rattle.selftimed.proofs.ShapesAgreeByActor.{TimesAgree}
use Rattle.selftimed.proofs.compare.same_running.Given as goal

abbrev pub invariant-loop-actor : goal.invariant-loop-actor
invariant-loop-actor l = TimesAgree l.now l.left l.then l.right l.actor
