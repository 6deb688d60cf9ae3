use Rattle.std.proofs.Common.{◌≡◌, ◌<◌, ℕ, Some}
use Rattle.std.specs.Prelude.{slice_get}
use Rattle.sd_base.specs.declared.tables.ChannelRow.{ChannelRow}
use Rattle.bounded_scenarios.proofs.naming.channel_named.Given as goal

abbrev pub invariant-loop-channel : goal.invariant-loop-channel
invariant-loop-channel l = (j : ℕ) (d : ChannelRow) → j < l.channel-index → slice_get l.channels j ≡ Some d → d.name ≡ l.name → ⊥
