use Rattle.std.proofs.Common.{ℕ, ◌≤◌, ◌<◌}
use Rattle.test_nets.specs.Ends.{IsLinkedBack}
use Rattle.test_nets.proofs.checks.is_joined.Given as goal

abbrev pub invariant-loop-actor : goal.invariant-loop-actor
invariant-loop-actor g l = (a : ℕ) → 1 ≤ a → a < l.actor → IsLinkedBack (g.F.Firing.net l.net) a
