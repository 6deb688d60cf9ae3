-- The rules of a file of scenarios, in the order in which they are tested.
use Rattle.std.specs.Prelude.{ℕ, ◌+◌, ◌*◌, Bool, true, ◌&&◌, not, ◌==◌, if◌then◌else◌, List, [], ◌∷◌, ◌++◌, length, map, Option, Some, None, Result, Ok, Err, codes}
use Rattle.std.specs.List.{list_any, find, position}
use Rattle.std.specs.Option.{option_or}
use Rattle.std.specs.Str.{bytes_eq}
use Rattle.sd_base.specs.declared.limits.Quantity.TheVariants as quantity
use Rattle.sd_base.specs.declared.limits.TheConstants.{SCENARIOS, AUTOMATON_STATES, NODES}
use Rattle.sd_base.specs.declared.tables.Kind.TheVariants.{Sdf}
use Rattle.sd_base.specs.declared.tables.ChannelRow.{ChannelRow}
use Rattle.sd_base.specs.declared.tables.ScenarioFile.{ScenarioFile}
use Rattle.sd_base.specs.declared.tables.ScenarioRow.{ScenarioRow}
use Rattle.sd_base.specs.declared.tables.SharedRow.{SharedRow}
use Rattle.sd_base.specs.declared.tables.StateRow.{StateRow}
use Rattle.sd_base.specs.Scenarios.{shared_count}
use Rattle.file_text.specs.Node.{Node}
use Rattle.graph_reader.specs.declared.field.Field.TheVariants as field
use Rattle.graph_reader.specs.declared.error.ReadError.{ReadError}
use Rattle.graph_reader.specs.declared.error.ReadError.TheVariants.{WrongKind, Missing, Twice, SharedDiffer, DeadEnd}
use Rattle.graph_reader.specs.Field.{word_of}
use Rattle.graph_reader.specs.TreeSteps.{◌>>=◌, file, children, required, one, each}
use Rattle.graph_reader.specs.NumberTexts.{within}
use Rattle.graph_reader.specs.Sections.{new_name, known, root_of, graph_in}
use Rattle.scenario_reader.specs.declared.states.State.{State}

-- the word of a file of scenarios
unfoldable pub scenario_kind : List ℕ → Result (List ℕ) ReadError
scenario_kind word = if bytes_eq word (word_of field.Fsmsadf) then Ok word else Err WrongKind

-- ---- scenarios

-- a scenario, after the earlier ones: its graph is read as that of a synchronous graph file with its times
unfoldable pub scenario_of : List ScenarioRow → Node → Result ScenarioRow ReadError
scenario_of done e = do
  name ← new_name file (map (λ (s : ScenarioRow). s.name) done) e
  count ← within quantity.Scenarios SCENARIOS (length done + 1)
  graph ← graph_in Sdf name true e
  Ok (record { name = name; graph = graph })

-- there is a scenario
abbrev pub some_scenario : List ScenarioRow → Result (List ScenarioRow) ReadError
some_scenario [] = Err (Missing field.Scenario file)
some_scenario (s ∷ rest) = Ok (s ∷ rest)

-- the scenarios of a section; there is one at least
unfoldable pub scenarios_of : Node → Result (List ScenarioRow) ReadError
scenarios_of section = do
  scenarios ← each scenario_of [] (children (word_of field.Scenario) section)
  some_scenario scenarios

-- ---- shared channels

-- the rows of the channels with tokens, in file order
abbrev pub rows_of : List ChannelRow → List SharedRow
rows_of [] = []
rows_of (c ∷ channels) = if c.tokens == 0 then rows_of channels else record { name = c.name; tokens = c.tokens } ∷ rows_of channels

-- whether two rows have one name and as many tokens
abbrev pub is_same_row : SharedRow → SharedRow → Bool
is_same_row r s = bytes_eq s.name r.name && (s.tokens == r.tokens)

-- the first row that none of the others is
abbrev pub stray : List SharedRow → List SharedRow → Option SharedRow
stray rows others = find (λ (r : SharedRow). not (list_any (is_same_row r) others)) rows

-- shared rows from which no row differs
abbrev pub none_differs : List SharedRow → Option SharedRow → Result (List SharedRow) ReadError
none_differs shared None = Ok shared
none_differs shared (Some r) = Err (SharedDiffer r.name)

-- these rows are the shared ones: of the shared rows none is missing, and then none of these is another one
unfoldable pub share : List SharedRow → List SharedRow → Result (List SharedRow) ReadError
share shared rows = none_differs shared (option_or (stray shared rows) (stray rows shared))

-- each scenario in order has the shared rows
unfoldable pub all_share : List SharedRow → List ScenarioRow → Result (List SharedRow) ReadError
all_share shared [] = Ok shared
all_share shared (s ∷ rest) = share shared (rows_of s.graph.channels) >>= λ _. all_share shared rest

-- the shared rows: those of the first scenario, which all others have
unfoldable pub shared_of : List ScenarioRow → Result (List SharedRow) ReadError
shared_of [] = Ok []
shared_of (s ∷ rest) = all_share (rows_of s.graph.channels) rest

-- ---- states

-- the number of the scenario of this name
abbrev pub scenario_number : List ScenarioRow → List ℕ → Option ℕ
scenario_number scenarios name = position (λ (s : ScenarioRow). bytes_eq s.name name) scenarios

-- the number of the state of this name
abbrev pub state_number : List State → List ℕ → Option ℕ
state_number states name = position (λ (s : State). bytes_eq s.name name) states

-- a state, after the earlier ones
unfoldable pub state_of : List ScenarioRow → List State → Node → Result State ReadError
state_of scenarios done e = do
  name ← new_name file (map (λ (s : State). s.name) done) e
  count ← within quantity.AutomatonStates AUTOMATON_STATES (length done + 1)
  scenario_name ← required field.Scenario name e
  scenario ← known field.Scenario scenario_name (scenario_number scenarios scenario_name)
  Ok (record { name = name; scenario = scenario })

-- there is a state
abbrev pub some_state : List State → Result (List State) ReadError
some_state [] = Err (Missing field.State file)
some_state (s ∷ rest) = Ok (s ∷ rest)

-- the states of an automaton; there is one at least
unfoldable pub states_of : List ScenarioRow → Node → Result (List State) ReadError
states_of scenarios fsm = do
  states ← each (state_of scenarios) [] (children (word_of field.State) fsm)
  some_state states

-- the state in which each path begins
unfoldable pub initial_of : List State → Node → Result ℕ ReadError
initial_of states fsm = do
  name ← required field.InitialState file fsm
  known field.InitialState name (state_number states name)

-- ---- successors

-- a state that isn't an earlier successor
abbrev pub new_next : List ℕ → List ℕ → ℕ → Result ℕ ReadError
new_next done name next = if list_any (λ other. other == next) done then Err (Twice field.State name) else Ok next

-- a successor of a state, after its earlier ones
unfoldable pub next_of : List State → List ℕ → List ℕ → Node → Result ℕ ReadError
next_of states of done e = do
  name ← required field.State of e
  next ← known field.State name (state_number states name)
  new_next done name next

-- there is a successor
abbrev pub some_next : List ℕ → List ℕ → Result (List ℕ) ReadError
some_next of [] = Err (DeadEnd of)
some_next of (r ∷ rest) = Ok (r ∷ rest)

-- the successors of a state; there is one at least
unfoldable pub successors_of : List State → List ℕ → Node → Result (List ℕ) ReadError
successors_of states of e = do
  next ← each (next_of states of) [] (children (codes "next") e)
  some_next of next

-- the row of a state
unfoldable pub state_row : List State → State → Node → Result StateRow ReadError
state_row states s e = do
  next ← successors_of states s.name e
  Ok (record { name = s.name; scenario = s.scenario; next = next })

-- the rows of states, each with its element, after the earlier rows
abbrev pub rows_from : List State → List StateRow → List State → List Node → Result (List StateRow) ReadError
rows_from states done [] es = Ok done
rows_from states done (s ∷ rest) [] = Ok done
rows_from states done (s ∷ rest) (e ∷ es) = state_row states s e >>= λ row. rows_from states (done ++ row ∷ []) rest es

-- the rows of all states
unfoldable pub state_rows : List State → Node → Result (List StateRow) ReadError
state_rows states fsm = rows_from states [] states (children (word_of field.State) fsm)

-- ---- the file

-- the states and where paths begin, of the section of scenarios with these shared channels
unfoldable pub automaton_in : List ScenarioRow → List SharedRow → Node → Result (List StateRow × ℕ) ReadError
automaton_in scenarios shared section = do
  fsm ← one field.Fsm file section
  states ← states_of scenarios fsm
  initial ← initial_of states fsm
  rows ← state_rows states fsm
  nodes ← within quantity.Nodes NODES (length states * shared_count shared)
  Ok (rows, initial)

-- the file that a section spells
unfoldable pub file_in : Node → Result ScenarioFile ReadError
file_in section = do
  scenarios ← scenarios_of section
  shared ← shared_of scenarios
  automaton ← automaton_in scenarios shared section
  Ok (record { scenarios = scenarios; shared = shared; states = automaton.0; initial = automaton.1 })

-- the file of scenarios of a tree, or the first rule that the tree breaks
unfoldable pub file_of : Node → Result ScenarioFile ReadError
file_of tree = do
  root ← root_of tree
  word ← required field.TypeWord file root
  kind ← scenario_kind word
  graph ← one field.ApplicationGraph file root
  section ← one field.Fsmsadf file graph
  file_in section
