-- Channels that have the names of shared rows.
use Rattle.std.specs.Prelude.{◌≡◌, ℕ, ◌≤◌, Option, Some, List, length, slice_get}
use Rattle.sd_base.specs.declared.tables.ChannelRow.{ChannelRow}
use Rattle.sd_base.specs.declared.tables.ScenarioRow.{ScenarioRow}
use Rattle.sd_base.specs.declared.tables.SharedRow.{SharedRow}
use Rattle.bounded_scenarios.specs.SharedChannels.{channel_named}

-- some channel has this name
abbrev pub IsNamedIn : List ChannelRow → List ℕ → Type 0
IsNamedIn cs name = (i : ℕ) × (c : ChannelRow) × (slice_get cs i ≡ Some c) × (c.name ≡ name)

-- so has one of each scenario
abbrev pub NameAll : List ScenarioRow → List ℕ → Type 0
NameAll ss name = (s : ℕ) (sc : ScenarioRow) → slice_get ss s ≡ Some sc → IsNamedIn sc.graph.channels name

-- by shared row a capacity or none, and a channel of its name whose tokens the capacity covers
pub record Covers (cs : List ChannelRow) (rows : List SharedRow) (ds : List (Option ℕ)) : Type 0 where
  pub long : length ds ≡ length rows
  pub named : (t : ℕ) (row : SharedRow) → slice_get rows t ≡ Some row → IsNamedIn cs row.name
  pub covered : (t k : ℕ) (row : SharedRow) → slice_get rows t ≡ Some row → slice_get ds t ≡ Some (Some k) → (channel_named cs row.name).tokens ≤ k

-- so it is in each scenario
abbrev pub CoverAll : List ScenarioRow → List SharedRow → List (Option ℕ) → Type 0
CoverAll ss rows ds = (s : ℕ) (sc : ScenarioRow) → slice_get ss s ≡ Some sc → Covers sc.graph.channels rows ds
