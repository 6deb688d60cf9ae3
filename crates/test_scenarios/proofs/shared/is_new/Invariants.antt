use Rattle.std.proofs.Common.{◌≡◌, ◌≢◌, ℕ, ◌<◌, Some}
use Rattle.std.specs.Prelude.{slice_get}
use Rattle.sd_base.specs.declared.tables.ChannelRow.{ChannelRow}
use Rattle.test_scenarios.proofs.shared.is_new.Given as goal

abbrev pub invariant-loop-before : goal.invariant-loop-before
invariant-loop-before l = (i : ℕ) (c : ChannelRow) → slice_get l.channels i ≡ Some c → i < l.before → c.name ≢ l.name
