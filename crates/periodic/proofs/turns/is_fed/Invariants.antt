use Rattle.std.proofs.Common.{ℕ, ◌<◌}
use Rattle.periodic.specs.inside.FiniteTests.{InTime}
use Rattle.periodic.proofs.turns.is_fed.Given as goal

abbrev pub invariant-loop-place : goal.invariant-loop-place
invariant-loop-place g l = (k : ℕ) → k < l.place → InTime (g.F.Firing.net l.net) l.period l.rows l.channel k
