use Rattle.selftimed.proofs.ShapesAgreeByActor.{PhasesAgree}
use Rattle.selftimed.proofs.compare.same_stands.Given as goal

abbrev pub invariant-loop-actor : goal.invariant-loop-actor
invariant-loop-actor g l = PhasesAgree (g.F.Firing.net l.net) l.left l.right l.actor
