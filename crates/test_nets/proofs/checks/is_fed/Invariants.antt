use Rattle.std.proofs.Common.{ℕ, ◌<◌}
use Rattle.test_nets.specs.Ends.{HasInput}
use Rattle.test_nets.proofs.checks.is_fed.Given as goal

abbrev pub invariant-loop-actor : goal.invariant-loop-actor
invariant-loop-actor g l = (a : ℕ) → a < l.actor → HasInput (g.F.Firing.net l.net) a
