use Rattle.std.proofs.Common.{◌≡◌, ℕ, ◌<◌, length}
use Rattle.sd_base.specs.Net.{channel_at}
use Rattle.cert_checker.proofs.joins.has_inputs.Given as goal

abbrev pub invariant-loop-actor : goal.invariant-loop-actor
invariant-loop-actor g l = (a : ℕ) → a < l.actor → (i : ℕ) × (i < length (g.F.Firing.net l.net).channels) × ((channel_at (g.F.Firing.net l.net) i).target ≡ a)
