use Rattle.std.proofs.Common.{ℕ, ◌<◌}
use Rattle.test_nets.specs.Ends.{LinksBack}
use Rattle.test_nets.proofs.checks.is_linked_back.Given as goal

abbrev pub invariant-loop-channel : goal.invariant-loop-channel
invariant-loop-channel g l = (i : ℕ) → i < l.channel → LinksBack (g.F.Firing.net l.net) l.actor i → ⊥
