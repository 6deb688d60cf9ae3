use Rattle.std.proofs.Common.{◌≡◌, ℕ, ◌<◌, slice_index}
use Rattle.sd_base.specs.Net.{channel_at}
use Rattle.sd_base.specs.Schedules.{Needs}
use Rattle.firing.proofs.enabled.can_fire.Given as goal

abbrev pub invariant-loop-channel : goal.invariant-loop-channel
invariant-loop-channel g l = (i : ℕ) → i < l.channel → (channel_at (g.F.Firing.net l.net) i).target ≡ l.actor
    → Needs (channel_at (g.F.Firing.net l.net) i) (slice_index l.counts l.actor) (slice_index l.counts (channel_at (g.F.Firing.net l.net) i).source) → ⊥
