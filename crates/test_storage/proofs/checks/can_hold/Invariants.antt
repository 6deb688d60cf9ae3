use Rattle.std.proofs.Common.{◌<◌, ℕ, None}
use Rattle.std.specs.Prelude.{slice_index_or}
use Rattle.sd_base.specs.Net.{channel_at}
use Rattle.test_storage.proofs.FittingEntriesHold.{Fits}
use Rattle.test_storage.proofs.checks.can_hold.Given as goal

abbrev pub invariant-loop-channel : goal.invariant-loop-channel
invariant-loop-channel g l = (i : ℕ) → i < l.channel → Fits (channel_at (g.F.Firing.net l.net) i) (slice_index_or l.capacities.capacities i None)
