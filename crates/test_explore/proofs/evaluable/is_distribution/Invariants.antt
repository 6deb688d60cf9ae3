use Rattle.std.proofs.Common.{ℕ, ◌<◌}
use Rattle.std.specs.Prelude.{slice_get}
use Rattle.sd_base.specs.Net.{channel_at}
use Rattle.test_explore.specs.Fitting.{FitsAt}
use Rattle.test_explore.proofs.evaluable.is_distribution.Given as goal

abbrev pub invariant-loop-channel : goal.invariant-loop-channel
invariant-loop-channel g l = (i : ℕ) → i < l.channel → FitsAt (channel_at (g.F.Firing.net l.net) i) (slice_get l.capacities.capacities i)
