use Rattle.event_loops.proofs.StartsAddUp.{AddsSoFar}
use Rattle.event_loops.proofs.collect.add_starts.Given as goal

abbrev pub invariant-loop-actor : goal.invariant-loop-actor
invariant-loop-actor g l = AddsSoFar (g.F.Firing.net l.engine.net.now) l.engine.moment l.starters l.fn.starts l.starts l.actor-index
