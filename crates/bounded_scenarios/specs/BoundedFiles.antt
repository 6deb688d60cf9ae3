-- The file whose shared channels have the capacities of a distribution, by shared row.
use Rattle.std.specs.Prelude.{ℕ, ◌-◌, nat_lt, if◌then◌else◌, Option, None, Some, List, [], ◌∷◌, ◌++◌, map}
use Rattle.sd_base.specs.declared.tables.GraphFile.{GraphFile}
use Rattle.sd_base.specs.declared.tables.ChannelRow.{ChannelRow}
use Rattle.sd_base.specs.declared.tables.ScenarioFile.{ScenarioFile}
use Rattle.sd_base.specs.declared.tables.ScenarioRow.{ScenarioRow}
use Rattle.sd_base.specs.declared.tables.SharedRow.{SharedRow}
use Rattle.bounded_scenarios.specs.SharedChannels.{channel_named}

-- the name of the free space of a channel, which no file gives: U+0001 and the channel's name
abbrev pub space_name : List ℕ → List ℕ
space_name name = 1 ∷ name

-- the free space of a channel at capacity k
abbrev pub space_row : ChannelRow → ℕ → ChannelRow
space_row c k = record { name = space_name c.name; source = c.target; target = c.source; made = c.taken; taken = c.made; tokens = k - c.tokens; size = c.size }

-- the free spaces of the shared channels that have a capacity, in a graph of these channels
abbrev pub space_rows : List ChannelRow → List SharedRow → List (Option ℕ) → List ChannelRow
space_rows cs [] ds = []
space_rows cs (row ∷ rows) [] = []
space_rows cs (row ∷ rows) (None ∷ ds) = space_rows cs rows ds
space_rows cs (row ∷ rows) (Some k ∷ ds) = space_row (channel_named cs row.name) k ∷ space_rows cs rows ds

-- a scenario's graph with them, after its channels
abbrev pub bounded_graph : List SharedRow → List (Option ℕ) → GraphFile → GraphFile
bounded_graph rows ds g = record { kind = g.kind; actors = g.actors; channels = g.channels ++ space_rows g.channels rows ds }

abbrev pub bounded_scenario : List SharedRow → List (Option ℕ) → ScenarioRow → ScenarioRow
bounded_scenario rows ds s = record { name = s.name; graph = bounded_graph rows ds s.graph }

-- the shared rows of the free spaces that have tokens
abbrev pub space_shares : List SharedRow → List (Option ℕ) → List SharedRow
space_shares [] ds = []
space_shares (row ∷ rows) [] = []
space_shares (row ∷ rows) (None ∷ ds) = space_shares rows ds
space_shares (row ∷ rows) (Some k ∷ ds) =
    if nat_lt row.tokens k then record { name = space_name row.name; tokens = k - row.tokens } ∷ space_shares rows ds else space_shares rows ds

-- the bounded file
abbrev pub bounded_file : ScenarioFile → List (Option ℕ) → ScenarioFile
bounded_file file ds = record {
  scenarios = map (bounded_scenario file.shared ds) file.scenarios;
  shared = file.shared ++ space_shares file.shared ds;
  states = file.states;
  initial = file.initial;
}
