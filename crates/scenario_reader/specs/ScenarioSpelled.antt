-- The file of scenarios that a tree spells, said of both at once, without an order of tests.
use Rattle.std.specs.Prelude.{◌≡◌, ◌≢◌, ℕ, ◌*◌, ◌≤◌, true, List, [], ◌∷◌, length, slice_get, Some, codes}
use Rattle.sd_base.specs.declared.limits.TheConstants.{SCENARIOS, AUTOMATON_STATES, NODES}
use Rattle.sd_base.specs.declared.tables.Kind.TheVariants.{Sdf}
use Rattle.sd_base.specs.declared.tables.ScenarioFile.{ScenarioFile}
use Rattle.sd_base.specs.declared.tables.ScenarioRow.{ScenarioRow}
use Rattle.sd_base.specs.declared.tables.SharedRow.{SharedRow}
use Rattle.sd_base.specs.declared.tables.StateRow.{StateRow}
use Rattle.sd_base.specs.Scenarios.{shared_count}
use Rattle.file_text.specs.Node.{Node, name_of}
use Rattle.file_text.specs.Grammar.{Each}
use Rattle.graph_reader.specs.declared.field.Field.TheVariants as field
use Rattle.graph_reader.specs.Field.{word_of}
use Rattle.graph_reader.specs.TreeSteps.{children}
use Rattle.graph_reader.specs.Spelled.{Pairwise, EachTwo, Has, HasName, IsGraph}
use Rattle.scenario_reader.specs.declared.states.State.{State}
use Rattle.scenario_reader.specs.ScenarioSections.{rows_of, scenario_number, state_number}

-- an element spells a scenario: its name, and a synchronous graph with its times
pub record IsScenario (e : Node) (s : ScenarioRow) : Type 0 where
  pub name : HasName e s.name
  pub graph : IsGraph Sdf true e s.graph

-- scenarios have names of their own; there is one at least, and they aren't too many
pub record AreScenarios (section : Node) (scenarios : List ScenarioRow) : Type 0 where
  pub rows : Pairwise IsScenario (children (word_of field.Scenario) section) scenarios
  pub apart : EachTwo (λ (s t : ScenarioRow). s.name ≢ t.name) scenarios
  pub some : 1 ≤ length scenarios
  pub few : length scenarios ≤ SCENARIOS

-- a row of this name and with as many tokens stands in a list
pub record HasRow (rows : List SharedRow) (name : List ℕ) (tokens : ℕ) : Type 0 where
  pub place : ℕ
  pub row : SharedRow
  pub at : slice_get rows place ≡ Some row
  pub same_name : row.name ≡ name
  pub same_tokens : row.tokens ≡ tokens

-- each of the rows is one of the others
abbrev pub AreAmong : List SharedRow → List SharedRow → Type 0
AreAmong rows others = Each (λ (r : SharedRow). HasRow others r.name r.tokens) rows

-- two lists have the same rows
pub record AreSame (shared rows : List SharedRow) : Type 0 where
  pub there : AreAmong shared rows
  pub back : AreAmong rows shared

-- the shared rows: those of the first scenario's channels with tokens, in file order; all others have the same
abbrev pub AreShared : List ScenarioRow → List SharedRow → Type 0
AreShared [] shared = shared ≡ []
AreShared (s ∷ rest) shared = (shared ≡ rows_of s.graph.channels) × Each (λ (t : ScenarioRow). AreSame shared (rows_of t.graph.channels)) rest

-- an element spells a state: its name, and the scenario that it names
pub record IsState (scenarios : List ScenarioRow) (e : Node) (s : State) : Type 0 where
  pub name : HasName e s.name
  pub scenario_name : List ℕ
  pub has : Has field.Scenario e scenario_name
  pub runs : scenario_number scenarios scenario_name ≡ Some s.scenario

-- states have names of their own; there is one at least, and they aren't too many
pub record AreStates (scenarios : List ScenarioRow) (fsm : Node) (states : List State) : Type 0 where
  pub rows : Pairwise (IsState scenarios) (children (word_of field.State) fsm) states
  pub apart : EachTwo (λ (s t : State). s.name ≢ t.name) states
  pub some : 1 ≤ length states
  pub few : length states ≤ AUTOMATON_STATES

-- the initial state, by its number
abbrev pub IsInitial : List State → Node → ℕ → Type 0
IsInitial states fsm n = (name : List ℕ) × Has field.InitialState fsm name × (state_number states name ≡ Some n)

-- an element names a successor
abbrev pub NamesSuccessor : List State → Node → ℕ → Type 0
NamesSuccessor states e n = (name : List ℕ) × Has field.State e name × (state_number states name ≡ Some n)

-- a state with its successors, which are different states, and one at least
pub record IsStateRow (states : List State) (s : State) (e : Node) (row : StateRow) : Type 0 where
  pub name : row.name ≡ s.name
  pub scenario : row.scenario ≡ s.scenario
  pub next : Pairwise (NamesSuccessor states) (children (codes "next") e) row.next
  pub apart : EachTwo (λ (m n : ℕ). m ≢ n) row.next
  pub some : 1 ≤ length row.next

-- a row for each state and its element
abbrev pub AreRows : List State → List State → List Node → List StateRow → Type 0
AreRows states [] [] [] = Unit {0}
AreRows states (s ∷ rest) (e ∷ es) (row ∷ rows) = IsStateRow states s e row × AreRows states rest es rows
AreRows states rest es rows = ⊥

-- the tree spells the file
pub record IsScenarioFile (tree : Node) (f : ScenarioFile) : Type 0 where
  pub graph : Node
  pub section : Node
  pub fsm : Node
  pub states : List State
  pub root : name_of tree ≡ word_of field.Sdf3
  pub kind : Has field.TypeWord tree (word_of field.Fsmsadf)
  pub one_graph : children (word_of field.ApplicationGraph) tree ≡ graph ∷ []
  pub one_section : children (word_of field.Fsmsadf) graph ≡ section ∷ []
  pub are_scenarios : AreScenarios section f.scenarios
  pub are_shared : AreShared f.scenarios f.shared
  pub one_fsm : children (word_of field.Fsm) section ≡ fsm ∷ []
  pub are_states : AreStates f.scenarios fsm states
  pub initial : IsInitial states fsm f.initial
  pub are_rows : AreRows states states (children (word_of field.State) fsm) f.states
  pub nodes : length states * shared_count f.shared ≤ NODES
