use Rattle.std.proofs.Common.{◌≡◌, ℕ, ◌<◌, ◌⊎◌}
use Rattle.sd_base.specs.Net.{channel_at}
use Rattle.storage.proofs.incident.is_incident.Given as goal

abbrev pub invariant-loop-channel : goal.invariant-loop-channel
invariant-loop-channel g l =
    (i : ℕ) → i < l.channel → ((channel_at (g.F.Firing.net l.net) i).source ≡ l.actor) ⊎ ((channel_at (g.F.Firing.net l.net) i).target ≡ l.actor) → ⊥
