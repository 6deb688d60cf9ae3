use Rattle.std.proofs.Common.{ℕ, ◌<◌}
use Rattle.std.specs.Prelude.{slice_get}
use Rattle.sd_base.specs.Net.{channel_at}
use Rattle.cert_checker.specs.inside.Entries.{Fits}
use Rattle.cert_checker.proofs.fits.is_distribution.Given as goal

abbrev pub invariant-loop-channel : goal.invariant-loop-channel
invariant-loop-channel g l = (i : ℕ) → i < l.channel → Fits (channel_at (g.F.Firing.net l.net) i) (slice_get l.capacities i)
