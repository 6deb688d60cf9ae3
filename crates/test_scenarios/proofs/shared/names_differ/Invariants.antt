use Rattle.std.proofs.Common.{◌≡◌, ◌≢◌, ℕ, ◌<◌, Some}
use Rattle.std.specs.Prelude.{slice_get}
use Rattle.sd_base.specs.declared.tables.ChannelRow.{ChannelRow}
use Rattle.test_scenarios.proofs.shared.names_differ.Given as goal

abbrev pub invariant-loop-place : goal.invariant-loop-place
invariant-loop-place l = (j : ℕ) (d : ChannelRow) → slice_get l.channels j ≡ Some d → j < l.place → (i : ℕ) (c : ChannelRow) → slice_get l.channels i ≡ Some c → i < j → c.name ≢ d.name
