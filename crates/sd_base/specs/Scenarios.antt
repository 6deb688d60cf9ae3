-- The rules of a file of scenarios.
use Rattle.std.specs.Prelude.{◌≡◌, ℕ, ◌+◌, ◌*◌, ◌≤◌, ◌<◌, List, [], ◌∷◌, length, slice_get, Some}
use Rattle.sd_base.specs.declared.limits.TheConstants.{SCENARIOS, AUTOMATON_STATES, NODES}
use Rattle.sd_base.specs.declared.tables.Kind.TheVariants.{Sdf}
use Rattle.sd_base.specs.declared.tables.GraphFile.{GraphFile}
use Rattle.sd_base.specs.declared.tables.ChannelRow.{ChannelRow}
use Rattle.sd_base.specs.declared.tables.ScenarioFile.{ScenarioFile}
use Rattle.sd_base.specs.declared.tables.ScenarioRow.{ScenarioRow}
use Rattle.sd_base.specs.declared.tables.SharedRow.{SharedRow}
use Rattle.sd_base.specs.declared.tables.StateRow.{StateRow}
use Rattle.sd_base.specs.Tables.{KeepsRules, IsTimed}

-- how many tokens are shared
abbrev pub shared_count : List SharedRow → ℕ
shared_count [] = 0
shared_count (s ∷ ss) = s.tokens + shared_count ss

-- the shared rows are the channels with tokens of a graph, all of them, by name, each with as many tokens; no two have one name
pub record Shares (shared : List SharedRow) (g : GraphFile) : Type 0 where
  pub rows : (s : ℕ) (row : SharedRow) → slice_get shared s ≡ Some row →
      (i : ℕ) × (c : ChannelRow) × (slice_get g.channels i ≡ Some c) × (c.name ≡ row.name) × (c.tokens ≡ row.tokens) × (1 ≤ row.tokens)
  pub channels : (i : ℕ) (c : ChannelRow) → slice_get g.channels i ≡ Some c → 1 ≤ c.tokens →
      (s : ℕ) × (row : SharedRow) × (slice_get shared s ≡ Some row) × (row.name ≡ c.name) × (row.tokens ≡ c.tokens)
  pub rows_differ : (s t : ℕ) (x y : SharedRow) → slice_get shared s ≡ Some x → slice_get shared t ≡ Some y → x.name ≡ y.name → s ≡ t
  pub names_differ : (i j : ℕ) (c d : ChannelRow) → slice_get g.channels i ≡ Some c → slice_get g.channels j ≡ Some d → c.name ≡ d.name → i ≡ j

-- the rules of a scenario of a file
pub record ScenarioKeepsRules (shared : List SharedRow) (s : ScenarioRow) : Type 0 where
  pub rules : KeepsRules s.graph
  pub kind : s.graph.kind ≡ Sdf
  pub timed : IsTimed s.graph
  pub shares : Shares shared s.graph

-- the states of a file lead on, to states, and run scenarios of the file; the initial one is a state
pub record LeadsOn (file : ScenarioFile) : Type 0 where
  pub initial : file.initial < length file.states
  pub scenarios : (q : ℕ) (s : StateRow) → slice_get file.states q ≡ Some s → s.scenario < length file.scenarios
  pub next : (q : ℕ) (s : StateRow) → slice_get file.states q ≡ Some s → 1 ≤ length s.next
  pub known : (q p r : ℕ) (s : StateRow) → slice_get file.states q ≡ Some s → slice_get s.next p ≡ Some r → r < length file.states

-- the rules and limits of a file of scenarios on counts, places, names and numbers; no state names one successor twice
pub record FileKeepsRules (file : ScenarioFile) : Type 0 where
  pub some_scenario : 1 ≤ length file.scenarios
  pub few_scenarios : length file.scenarios ≤ SCENARIOS
  pub some_state : 1 ≤ length file.states
  pub few_states : length file.states ≤ AUTOMATON_STATES
  pub few_nodes : length file.states * shared_count file.shared ≤ NODES
  pub scenarios : (s : ℕ) (row : ScenarioRow) → slice_get file.scenarios s ≡ Some row → ScenarioKeepsRules file.shared row
  pub leads_on : LeadsOn file
  pub once : (q i j r : ℕ) (s : StateRow) → slice_get file.states q ≡ Some s → slice_get s.next i ≡ Some r → slice_get s.next j ≡ Some r → i ≡ j
