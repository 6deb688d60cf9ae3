use Rattle.std.proofs.Common.{ℕ, ◌<◌, ◌≤◌}
use Rattle.std.specs.Prelude.{slice_index}
use Rattle.sd_base.specs.declared.limits.TheConstants.{RATE}
use Rattle.sd_base.specs.Net.{channel_at}
use Rattle.firing.specs.Ports.{rates_at}
use Rattle.storage.proofs.steps.port_greatest.Given as goal

abbrev pub invariant-loop-phase : goal.invariant-loop-phase
invariant-loop-phase g l =
    ((p : ℕ) → p < l.phase → slice_index (rates_at l.port (channel_at (g.F.Firing.net l.net) l.channel)) p ≤ l.greatest)
    × ((k : ℕ) → ((p : ℕ) → slice_index (rates_at l.port (channel_at (g.F.Firing.net l.net) l.channel)) p ≤ k) → l.greatest ≤ k)
    × (l.greatest ≤ RATE)
