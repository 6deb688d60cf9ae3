use Rattle.std.proofs.Common.{◌≡◌, ◌<◌, ℕ, false}
use Rattle.sd_base.specs.Net.{channel_at}
use Rattle.sd_base.specs.Lawful.{is_space_role}
use Rattle.test_storage.proofs.checks.has_no_spaces.Given as goal

abbrev pub invariant-loop-channel : goal.invariant-loop-channel
invariant-loop-channel g l = (i : ℕ) → i < l.channel → is_space_role (channel_at (g.F.Firing.net l.net) i).role ≡ false
