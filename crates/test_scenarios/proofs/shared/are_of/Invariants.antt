use Rattle.std.proofs.Common.{◌≡◌, ℕ, ◌<◌, Some}
use Rattle.std.specs.Prelude.{slice_get}
use Rattle.sd_base.specs.declared.tables.ChannelRow.{ChannelRow}
use Rattle.sd_base.specs.declared.tables.SharedRow.{SharedRow}
use Rattle.test_scenarios.specs.Sharing.{IsOf}
use Rattle.test_scenarios.proofs.shared.are_of.Given as goal

abbrev pub invariant-loop-place : goal.invariant-loop-place
invariant-loop-place l = (s : ℕ) (row : SharedRow) → slice_get l.shared s ≡ Some row → s < l.place → (c : ChannelRow) → slice_get l.channels s ≡ Some c → IsOf row c
