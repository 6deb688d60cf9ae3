use Rattle.std.proofs.Common.{◌≡◌, ℕ, ◌≤◌, ◌<◌, Some}
use Rattle.std.specs.Prelude.{slice_get}
use Rattle.sd_base.specs.declared.tables.ChannelRow.{ChannelRow}
use Rattle.test_scenarios.proofs.shared.are_empty_from.Given as goal

abbrev pub invariant-loop-place : goal.invariant-loop-place
invariant-loop-place l = (i : ℕ) (c : ChannelRow) → slice_get l.channels i ≡ Some c → i < l.place → l.from ≤ i → c.tokens ≡ 0
