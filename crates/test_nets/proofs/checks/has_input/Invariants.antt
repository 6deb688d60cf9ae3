use Rattle.std.proofs.Common.{◌≡◌, ℕ, ◌<◌}
use Rattle.sd_base.specs.Net.{channel_at}
use Rattle.test_nets.proofs.checks.has_input.Given as goal

abbrev pub invariant-loop-channel : goal.invariant-loop-channel
invariant-loop-channel g l = (i : ℕ) → i < l.channel → (channel_at (g.F.Firing.net l.net) i).target ≡ l.actor → ⊥
