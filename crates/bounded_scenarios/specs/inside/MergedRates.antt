-- The rates of a channel in all scenarios.
use Rattle.std.specs.Prelude.{◌≡◌, ℕ, ◌≤◌, List, slice_index, sum, if◌then◌else◌}
use Rattle.std.specs.List.{flat_map}
use Rattle.sd_base.specs.declared.limits.TheConstants.{RATE, TOKENS}
use Rattle.sd_base.specs.declared.tables.ChannelRow.{ChannelRow}
use Rattle.sd_base.specs.declared.tables.ScenarioRow.{ScenarioRow}
use Rattle.sd_base.specs.declared.tables.SharedRow.{SharedRow}
use Rattle.sd_base.specs.declared.role.Role.TheVariants.{Token}
use Rattle.sd_base.specs.Net.{Channel}
use Rattle.bounded_scenarios.specs.SharedChannels.{channels_named, is_looped}
use Rattle.bounded_scenarios.specs.declared.merged.Merged.{Merged}

-- they are those of the channel of a shared row, scenario by scenario
pub record IsMerged (ss : List ScenarioRow) (row : SharedRow) (j : Merged) : Type 0 where
  pub looped : j.looped ≡ is_looped (channels_named ss row.name)
  pub made : j.made.items ≡ flat_map (λ (c : ChannelRow). c.made) (channels_named ss row.name)
  pub tokens : j.tokens ≡ row.tokens
  pub taken : j.taken.items ≡ flat_map (λ (c : ChannelRow). c.taken) (channels_named ss row.name)

-- the channel of these rates
abbrev pub merged_channel : Merged → Channel
merged_channel j = record { source = 0; target = if j.looped then 0 else 1; made = j.made.items; taken = j.taken.items; tokens = j.tokens; size = 1; role = Token 0 }

-- no rate is above its limit, no more are the tokens, and some token is made
pub record IsLimited (j : Merged) : Type 0 where
  pub made : (p : ℕ) → slice_index j.made.items p ≤ RATE
  pub taken : (p : ℕ) → slice_index j.taken.items p ≤ RATE
  pub moves : 1 ≤ sum j.made.items
  pub tokens : j.tokens ≤ TOKENS
