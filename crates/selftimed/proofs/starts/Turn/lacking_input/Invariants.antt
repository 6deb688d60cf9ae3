use Rattle.std.proofs.Common.{ℕ, ◌<◌, ◌≤◌}
use Rattle.std.specs.Prelude.{slice_index}
use Rattle.sd_base.specs.Net.{channel_at, phase_entry}
use Rattle.selftimed.proofs.starts.Turn.lacking_input.Given as goal

-- the channels looked at have enough
abbrev pub invariant-loop-channel : goal.invariant-loop-channel
invariant-loop-channel g l = (j : ℕ) → j < l.channel-index → phase_entry (channel_at (g.F.Firing.net l.self.net.now) (slice_index l.self.inputs.now j)).taken l.firing ≤ slice_index l.tokens (slice_index l.self.inputs.now j)
