-- What refuses a tree is a broken rule of its sections: no fault of a text, and no want of memory.
use Rattle.std.proofs.Common.{ℕ, ◌+◌, ◌*◌, true, ◌==◌, List, [], ◌∷◌, ◌++◌, length, map, Option, Some, None}
use Rattle.std.specs.Prelude.{codes}
use Rattle.std.specs.List.{list_any}
use Rattle.std.specs.Option.{option_or}
use Rattle.std.specs.Str.{bytes_eq}
use Rattle.sd_base.specs.declared.limits.Quantity.TheVariants as quantity
use Rattle.sd_base.specs.declared.tables.Kind.TheVariants.{Sdf}
use Rattle.sd_base.specs.declared.tables.ScenarioRow.{ScenarioRow}
use Rattle.sd_base.specs.declared.tables.SharedRow.{SharedRow}
use Rattle.sd_base.specs.declared.tables.StateRow.{StateRow}
use Rattle.sd_base.specs.Scenarios.{shared_count}
use Rattle.file_text.specs.Node.{Node}
use Rattle.graph_reader.specs.declared.field.Field.TheVariants as field
use Rattle.graph_reader.specs.Field.{word_of}
use Rattle.graph_reader.specs.TreeSteps
use Rattle.graph_reader.specs.TreeSteps.{file}
use Rattle.graph_reader.specs.NumberTexts
use Rattle.graph_reader.specs.Sections
use Rattle.graph_reader.proofs.BrokenRules.{Rules, then, choice, each, required, one, within, new_name, known, root_of, graph_in}
use Rattle.scenario_reader.specs.declared.states.State.{State}
use Rattle.scenario_reader.specs.ScenarioSections as files

scenario_kind : (word : List ℕ) → Rules (files.scenario_kind word)
unfolding files.scenario_kind
scenario_kind word = choice (bytes_eq word (word_of field.Fsmsadf)) _ _ tt tt

-- ---- scenarios

scenario_of : (done : List ScenarioRow) (e : Node) → Rules (files.scenario_of done e)
unfolding files.scenario_of
scenario_of done e =
    then (Sections.new_name file (map (λ (s : ScenarioRow). s.name) done) e) _ (new_name file (map (λ (s : ScenarioRow). s.name) done) e) (λ name.
    then (NumberTexts.within quantity.Scenarios 64 (length done + 1)) _ (within quantity.Scenarios 64 (length done + 1)) (λ count.
    then (Sections.graph_in Sdf name true e) _ (graph_in Sdf name true e) (λ graph. tt)))

some_scenario : (scenarios : List ScenarioRow) → Rules (files.some_scenario scenarios)
some_scenario [] = tt
some_scenario (s ∷ rest) = tt

scenarios_of : (section : Node) → Rules (files.scenarios_of section)
unfolding files.scenarios_of
scenarios_of section = then (TreeSteps.each files.scenario_of [] (TreeSteps.children (word_of field.Scenario) section)) _ (each files.scenario_of scenario_of [] (TreeSteps.children (word_of field.Scenario) section)) some_scenario

-- ---- shared channels

none_differs : (shared : List SharedRow) (o : Option SharedRow) → Rules (files.none_differs shared o)
none_differs shared None = tt
none_differs shared (Some r) = tt

share : (shared rows : List SharedRow) → Rules (files.share shared rows)
unfolding files.share
share shared rows = none_differs shared (option_or (files.stray shared rows) (files.stray rows shared))

all_share : (shared : List SharedRow) (scenarios : List ScenarioRow) → Rules (files.all_share shared scenarios)
unfolding files.all_share
all_share shared [] = tt
all_share shared (s ∷ rest) = then (files.share shared (files.rows_of s.graph.channels)) _ (share shared (files.rows_of s.graph.channels)) (λ _. all_share shared rest)

shared_of : (scenarios : List ScenarioRow) → Rules (files.shared_of scenarios)
unfolding files.shared_of
shared_of [] = tt
shared_of (s ∷ rest) = all_share (files.rows_of s.graph.channels) rest

-- ---- states

state_of : (scenarios : List ScenarioRow) (done : List State) (e : Node) → Rules (files.state_of scenarios done e)
unfolding files.state_of
state_of scenarios done e =
    then (Sections.new_name file (map (λ (s : State). s.name) done) e) _ (new_name file (map (λ (s : State). s.name) done) e) (λ name.
    then (NumberTexts.within quantity.AutomatonStates 256 (length done + 1)) _ (within quantity.AutomatonStates 256 (length done + 1)) (λ count.
    then (TreeSteps.required field.Scenario name e) _ (required field.Scenario name e) (λ scenario_name.
    then (Sections.known field.Scenario scenario_name (files.scenario_number scenarios scenario_name)) _ (known field.Scenario scenario_name (files.scenario_number scenarios scenario_name)) (λ scenario. tt))))

some_state : (states : List State) → Rules (files.some_state states)
some_state [] = tt
some_state (s ∷ rest) = tt

states_of : (scenarios : List ScenarioRow) (fsm : Node) → Rules (files.states_of scenarios fsm)
unfolding files.states_of
states_of scenarios fsm =
    then (TreeSteps.each (files.state_of scenarios) [] (TreeSteps.children (word_of field.State) fsm)) _ (each (files.state_of scenarios) (state_of scenarios) [] (TreeSteps.children (word_of field.State) fsm)) some_state

initial_of : (states : List State) (fsm : Node) → Rules (files.initial_of states fsm)
unfolding files.initial_of
initial_of states fsm =
    then (TreeSteps.required field.InitialState file fsm) _ (required field.InitialState file fsm) (λ name. known field.InitialState name (files.state_number states name))

-- ---- successors

next_of : (states : List State) (of : List ℕ) (done : List ℕ) (e : Node) → Rules (files.next_of states of done e)
unfolding files.next_of
next_of states of done e =
    then (TreeSteps.required field.State of e) _ (required field.State of e) (λ name.
    then (Sections.known field.State name (files.state_number states name)) _ (known field.State name (files.state_number states name)) (λ next.
    choice (list_any (λ other. other == next) done) _ _ tt tt))

some_next : (of next : List ℕ) → Rules (files.some_next of next)
some_next of [] = tt
some_next of (r ∷ rest) = tt

successors_of : (states : List State) (of : List ℕ) (e : Node) → Rules (files.successors_of states of e)
unfolding files.successors_of
successors_of states of e = then (TreeSteps.each (files.next_of states of) [] (TreeSteps.children (codes "next") e)) _ (each (files.next_of states of) (next_of states of) [] (TreeSteps.children (codes "next") e)) (some_next of)

state_row : (states : List State) (s : State) (e : Node) → Rules (files.state_row states s e)
unfolding files.state_row
state_row states s e = then (files.successors_of states s.name e) _ (successors_of states s.name e) (λ next. tt)

rows_from : (states : List State) (done : List StateRow) (rest : List State) (es : List Node) → Rules (files.rows_from states done rest es)
rows_from states done [] es = tt
rows_from states done (s ∷ rest) [] = tt
rows_from states done (s ∷ rest) (e ∷ es) = then (files.state_row states s e) _ (state_row states s e) (λ row. rows_from states (done ++ row ∷ []) rest es)

state_rows : (states : List State) (fsm : Node) → Rules (files.state_rows states fsm)
unfolding files.state_rows
state_rows states fsm = rows_from states [] states (TreeSteps.children (word_of field.State) fsm)

-- ---- the file

automaton_in : (scenarios : List ScenarioRow) (shared : List SharedRow) (section : Node) → Rules (files.automaton_in scenarios shared section)
unfolding files.automaton_in
automaton_in scenarios shared section =
    then (TreeSteps.one field.Fsm file section) _ (one field.Fsm file section) (λ fsm.
    then (files.states_of scenarios fsm) _ (states_of scenarios fsm) (λ states.
    then (files.initial_of states fsm) _ (initial_of states fsm) (λ initial.
    then (files.state_rows states fsm) _ (state_rows states fsm) (λ rows.
    then (NumberTexts.within quantity.Nodes 1024 (length states * shared_count shared)) _ (within quantity.Nodes 1024 (length states * shared_count shared)) (λ nodes. tt)))))

file_in : (section : Node) → Rules (files.file_in section)
unfolding files.file_in
file_in section =
    then (files.scenarios_of section) _ (scenarios_of section) (λ scenarios.
    then (files.shared_of scenarios) _ (shared_of scenarios) (λ shared.
    then (files.automaton_in scenarios shared section) _ (automaton_in scenarios shared section) (λ read. tt)))

-- each refusal of a tree is a broken rule
pub rules : (tree : Node) → Rules (files.file_of tree)
unfolding files.file_of
rules tree =
    then (Sections.root_of tree) _ (root_of tree) (λ root.
    then (TreeSteps.required field.TypeWord file root) _ (required field.TypeWord file root) (λ word.
    then (files.scenario_kind word) _ (scenario_kind word) (λ kind.
    then (TreeSteps.one field.ApplicationGraph file root) _ (one field.ApplicationGraph file root) (λ graph.
    then (TreeSteps.one field.Fsmsadf file graph) _ (one field.Fsmsadf file graph) (λ section. file_in section)))))
