use Rattle.std.proofs.Common.{ℕ, suc, ◌<◌}
use Rattle.test_explore.specs.Neighbours.{AreJoined}
use Rattle.test_explore.proofs.checks.are_joined.Given as goal

abbrev pub invariant-loop-actor : goal.invariant-loop-actor
invariant-loop-actor g l = (a : ℕ) → a < l.actor → AreJoined (g.F.Firing.net l.net) a (suc a)
