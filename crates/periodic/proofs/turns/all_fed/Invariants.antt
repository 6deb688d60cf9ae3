use Rattle.std.proofs.Common.{ℕ, ◌<◌}
use Rattle.periodic.specs.inside.FiniteTests.{IsFed}
use Rattle.periodic.proofs.turns.all_fed.Given as goal

abbrev pub invariant-loop-channel : goal.invariant-loop-channel
invariant-loop-channel g l = (i : ℕ) → i < l.channel → IsFed (g.F.Firing.net l.net) l.period l.rows i
