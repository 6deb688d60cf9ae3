-- What is read of a tree is what the tree spells.
use Rattle.std.proofs.Common.{◌≡◌, ◌≢◌, ℕ, suc, ◌+◌, ◌*◌, ◌≤◌, true, false, ◌==◌, List, [], ◌∷◌, ◌++◌, length, map, Some, Result, Ok, refl, sym, ap, ◌∙◌, subst, append_assoc, arith}
use Rattle.std.specs.Prelude.{IfOk, IsTrue, codes}
use Rattle.std.specs.List.{list_any}
use Rattle.std.specs.Str.{bytes_eq}
use Rattle.std.proofs.lemmas.Bool.{eqb-false}
use Rattle.std.proofs.lemmas.List.{append-nil}
use Rattle.std.proofs.lemmas.Slice.Eq.{bytes_eq-Decides}
use Rattle.sd_base.specs.declared.limits.Quantity.TheVariants as quantity
use Rattle.sd_base.specs.declared.tables.Kind.TheVariants.{Sdf}
use Rattle.sd_base.specs.declared.tables.ScenarioFile.{ScenarioFile}
use Rattle.sd_base.specs.declared.tables.ScenarioRow.{ScenarioRow}
use Rattle.sd_base.specs.declared.tables.SharedRow.{SharedRow}
use Rattle.sd_base.specs.declared.tables.StateRow.{StateRow}
use Rattle.sd_base.specs.Tables.{IsTimed}
use Rattle.sd_base.specs.Scenarios.{shared_count}
use Rattle.file_text.specs.Node.{Node, name_of}
use Rattle.file_text.specs.Grammar.{Each}
use Rattle.graph_reader.specs.declared.field.Field.TheVariants as field
use Rattle.graph_reader.specs.declared.error.ReadError.{ReadError}
use Rattle.graph_reader.specs.Field.{word_of}
use Rattle.graph_reader.specs.TreeSteps
use Rattle.graph_reader.specs.TreeSteps.{◌>>=◌, file}
use Rattle.graph_reader.specs.NumberTexts
use Rattle.graph_reader.specs.Sections
use Rattle.graph_reader.specs.Spelled.{Pairwise, EachTwo, Has, IsGraph}
use Rattle.graph_reader.proofs.ReaderSteps.{then, weaker, both, choice}
use Rattle.graph_reader.proofs.NumberLists.{within}
use Rattle.graph_reader.proofs.ElementPlaces.{AfterEach, Follows, each-gives, Related, two-from_after, count-from_after, Counted, Each-from_none, Each-weaker}
use Rattle.graph_reader.proofs.ReadTreesAreSpelled.{required, new_name, IsNew, one, root_of, known}
use Rattle.graph_reader.proofs.ReadTreesAreSpelled
use Rattle.graph_reader.proofs.TablesKeepRules.{Keeps}
use Rattle.graph_reader.proofs.TablesKeepRules
use Rattle.scenario_reader.specs.declared.states.State.{State}
use Rattle.scenario_reader.specs.ScenarioSections as files
use Rattle.scenario_reader.specs.ScenarioSpelled.{IsScenario, AreScenarios, AreSame, AreShared, IsState, AreStates, IsInitial, NamesSuccessor, IsStateRow, AreRows, IsScenarioFile}
use Rattle.scenario_reader.proofs.SharedRows.{all-share}
use Rattle.scenario_reader.proofs.FileRules.{few, Differ, NoCount}

-- values that are read of elements: one each, related to each other, and counted
record AreRead {X : Type 0} (P : Node → X → Type 0) (R : X → X → Type 0) (N : List X → X → Type 0) (es : List Node) (xs : List X) : Type 0 where
  pairs : Pairwise P es xs
  apart : EachTwo R xs
  after : AfterEach N [] xs

each-read : {X : Type 0} (P : Node → X → Type 0) (R : X → X → Type 0) (N : List X → X → Type 0) (read : List X → Node → Result X ReadError) → ((done : List X) (e : Node) → IfOk (read done e) (λ x. P e x × Related R N done x)) → (es : List Node)
    → IfOk (TreeSteps.each read [] es) (AreRead P R N es)
each-read P R N read gives es =
    weaker (Follows P (Related R N) [] es) (AreRead P R N es) (TreeSteps.each read [] es) (each-gives P (Related R N) read gives [] es) (λ xs f.
    let pairs : Pairwise P es xs = subst (Pairwise P es) (sym f.1) f.2 in
    let after : AfterEach (Related R N) [] xs = subst (AfterEach (Related R N) []) (sym f.1) f.3 in
    record { pairs = pairs; apart = two-from_after R N xs after; after = count-from_after R N xs after })

pairs-long : {X : Type 0} (P : Node → X → Type 0) (es : List Node) (xs : List X) → Pairwise P es xs → length es ≡ length xs
pairs-long P [] [] pairs = refl
pairs-long P [] (x ∷ xs) pairs = absurd pairs
pairs-long P (e ∷ es) [] pairs = absurd pairs
pairs-long P (e ∷ es) (x ∷ xs) pairs = ap suc (pairs-long P es xs pairs.1)

scenario_kind : (word : List ℕ) → IfOk (files.scenario_kind word) (λ w. word ≡ word_of field.Fsmsadf)
unfolding files.scenario_kind
scenario_kind word = choice (λ w. word ≡ word_of field.Fsmsadf) (bytes_eq word (word_of field.Fsmsadf)) (Ok word) _ (λ h. (bytes_eq-Decides word (word_of field.Fsmsadf)).0 h) (λ h. tt)

-- ---- scenarios

abbrev pub ScenariosDiffer : ScenarioRow → ScenarioRow → Type 0
ScenariosDiffer s t = s.name ≢ t.name

graph_in : (name : List ℕ) (e : Node) → IfOk (Sections.graph_in Sdf name true e) (IsGraph Sdf true e)
graph_in name e =
    weaker (λ g. Keeps true g × ((IsTrue true → IsTimed g) → IsGraph Sdf true e g)) (IsGraph Sdf true e) (Sections.graph_in Sdf name true e)
    (both (Keeps true) (λ g. (IsTrue true → IsTimed g) → IsGraph Sdf true e g) (Sections.graph_in Sdf name true e) (TablesKeepRules.graph_in Sdf name true e) (ReadTreesAreSpelled.graph_in Sdf name true e)) (λ g h. h.1 h.0.1)

scenario_of : (done : List ScenarioRow) (e : Node) → IfOk (files.scenario_of done e) (λ s. IsScenario e s × Related ScenariosDiffer (Counted 0 64) done s)
unfolding files.scenario_of
scenario_of done e =
    then (IsNew (λ (s : ScenarioRow). s.name) done e) _ (Sections.new_name file (map (λ (s : ScenarioRow). s.name) done) e) _ (new_name (λ (s : ScenarioRow). s.name) file done e) (λ name new.
    then (λ m. (m ≡ length done + 1) × (length done + 1 ≤ 64)) _ (NumberTexts.within quantity.Scenarios 64 (length done + 1)) _ (within quantity.Scenarios 64 (length done + 1)) (λ count counted.
    then (IsGraph Sdf true e) _ (Sections.graph_in Sdf name true e) _ (graph_in name e) (λ graph is.
    (record { name = new.0; graph = is }, (new.1, omega (arith, counted.1))))))

some_scenario : (section : Node) (scenarios : List ScenarioRow) → AreRead IsScenario ScenariosDiffer (Counted 0 64) (TreeSteps.children (word_of field.Scenario) section) scenarios → IfOk (files.some_scenario scenarios) (AreScenarios section)
some_scenario section [] are = tt
some_scenario section (s ∷ rest) are = record { rows = are.pairs; apart = are.apart; some = omega arith; few = few 64 (s ∷ rest) are.after }

scenarios_of : (section : Node) → IfOk (files.scenarios_of section) (AreScenarios section)
unfolding files.scenarios_of
scenarios_of section =
    let es = TreeSteps.children (word_of field.Scenario) section in
    then (AreRead IsScenario ScenariosDiffer (Counted 0 64) es) (AreScenarios section) (TreeSteps.each files.scenario_of [] es) files.some_scenario (each-read IsScenario ScenariosDiffer (Counted 0 64) files.scenario_of scenario_of es) (λ scenarios are. some_scenario section scenarios are)

shared_of : (scenarios : List ScenarioRow) → IfOk (files.shared_of scenarios) (AreShared scenarios)
unfolding files.shared_of
shared_of [] = refl
shared_of (s ∷ rest) =
    let shared = files.rows_of s.graph.channels in
    weaker (λ read. (read ≡ shared) × Each (λ (t : ScenarioRow). AreSame shared (files.rows_of t.graph.channels)) rest) (AreShared (s ∷ rest)) (files.all_share shared rest) (all-share shared rest) (λ read h.
    (h.0, subst (λ rows. Each (λ (t : ScenarioRow). AreSame rows (files.rows_of t.graph.channels)) rest) (sym h.0) h.1))

-- ---- states

abbrev pub StatesDiffer : State → State → Type 0
StatesDiffer s t = s.name ≢ t.name

state_of : (scenarios : List ScenarioRow) (done : List State) (e : Node) → IfOk (files.state_of scenarios done e) (λ s. IsState scenarios e s × Related StatesDiffer (Counted 0 256) done s)
unfolding files.state_of
state_of scenarios done e =
    then (IsNew (λ (s : State). s.name) done e) _ (Sections.new_name file (map (λ (s : State). s.name) done) e) _ (new_name (λ (s : State). s.name) file done e) (λ name new.
    then (λ m. (m ≡ length done + 1) × (length done + 1 ≤ 256)) _ (NumberTexts.within quantity.AutomatonStates 256 (length done + 1)) _ (within quantity.AutomatonStates 256 (length done + 1)) (λ count counted.
    then (Has field.Scenario e) _ (TreeSteps.required field.Scenario name e) _ (required field.Scenario name e) (λ scenario_name has.
    then (λ n. files.scenario_number scenarios scenario_name ≡ Some n) _ (Sections.known field.Scenario scenario_name (files.scenario_number scenarios scenario_name)) _ (known field.Scenario scenario_name (files.scenario_number scenarios scenario_name)) (λ scenario runs.
    (record { name = new.0; scenario_name = scenario_name; has = has; runs = runs }, (new.1, omega (arith, counted.1)))))))

some_state : (scenarios : List ScenarioRow) (fsm : Node) (states : List State) → AreRead (IsState scenarios) StatesDiffer (Counted 0 256) (TreeSteps.children (word_of field.State) fsm) states → IfOk (files.some_state states) (AreStates scenarios fsm)
some_state scenarios fsm [] are = tt
some_state scenarios fsm (s ∷ rest) are = record { rows = are.pairs; apart = are.apart; some = omega arith; few = few 256 (s ∷ rest) are.after }

states_of : (scenarios : List ScenarioRow) (fsm : Node) → IfOk (files.states_of scenarios fsm) (AreStates scenarios fsm)
unfolding files.states_of
states_of scenarios fsm =
    let es = TreeSteps.children (word_of field.State) fsm in
    then (AreRead (IsState scenarios) StatesDiffer (Counted 0 256) es) (AreStates scenarios fsm) (TreeSteps.each (files.state_of scenarios) [] es) files.some_state (each-read (IsState scenarios) StatesDiffer (Counted 0 256) (files.state_of scenarios) (state_of scenarios) es) (λ states are.
    some_state scenarios fsm states are)

initial_of : (states : List State) (fsm : Node) → IfOk (files.initial_of states fsm) (IsInitial states fsm)
unfolding files.initial_of
initial_of states fsm =
    then (Has field.InitialState fsm) _ (TreeSteps.required field.InitialState file fsm) _ (required field.InitialState file fsm) (λ name has.
    weaker (λ n. files.state_number states name ≡ Some n) (IsInitial states fsm) (Sections.known field.InitialState name (files.state_number states name)) (known field.InitialState name (files.state_number states name)) (λ n is. (name, has, is)))

-- ---- successors

next_of : (states : List State) (of : List ℕ) (done : List ℕ) (e : Node) → IfOk (files.next_of states of done e) (λ n. NamesSuccessor states e n × Related Differ NoCount done n)
unfolding files.next_of
next_of states of done e =
    then (Has field.State e) _ (TreeSteps.required field.State of e) _ (required field.State of e) (λ name has.
    then (λ n. files.state_number states name ≡ Some n) _ (Sections.known field.State name (files.state_number states name)) _ (known field.State name (files.state_number states name)) (λ next is.
    choice (λ n. NamesSuccessor states e n × Related Differ NoCount done n) (list_any (λ other. other == next) done) _ (Ok next) (λ h. tt) (λ none.
    ((name, has, is), (Each-weaker (λ other. (other == next) ≡ false) (λ other. other ≢ next) done (Each-from_none (λ other. other == next) done none) (λ other h. eqb-false other next h), tt)))))

-- the successors of a state
pub record AreNext (states : List State) (e : Node) (next : List ℕ) : Type 0 where
  pub rows : Pairwise (NamesSuccessor states) (TreeSteps.children (codes "next") e) next
  pub apart : EachTwo Differ next
  pub some : 1 ≤ length next

some_next : (states : List State) (of : List ℕ) (e : Node) (next : List ℕ) → AreRead (NamesSuccessor states) Differ NoCount (TreeSteps.children (codes "next") e) next → IfOk (files.some_next of next) (AreNext states e)
some_next states of e [] are = tt
some_next states of e (r ∷ rest) are = record { rows = are.pairs; apart = are.apart; some = omega arith }

successors_of : (states : List State) (of : List ℕ) (e : Node) → IfOk (files.successors_of states of e) (AreNext states e)
unfolding files.successors_of
successors_of states of e =
    let es = TreeSteps.children (codes "next") e in
    then (AreRead (NamesSuccessor states) Differ NoCount es) (AreNext states e) (TreeSteps.each (files.next_of states of) [] es) (files.some_next of) (each-read (NamesSuccessor states) Differ NoCount (files.next_of states of) (next_of states of) es) (λ next are.
    some_next states of e next are)

state_row : (states : List State) (s : State) (e : Node) → IfOk (files.state_row states s e) (IsStateRow states s e)
unfolding files.state_row
state_row states s e =
    then (AreNext states e) (IsStateRow states s e) (files.successors_of states s.name e) _ (successors_of states s.name e) (λ next are. record { name = refl; scenario = refl; next = are.rows; apart = are.apart; some = are.some })

-- rows that follow others
abbrev Adds : List State → List StateRow → List State → List Node → List StateRow → Type 0
Adds states done rest es rows = (more : List StateRow) × (rows ≡ done ++ more) × AreRows states rest es more

rows_from : (states : List State) (done : List StateRow) (rest : List State) (es : List Node) → length es ≡ length rest → IfOk (files.rows_from states done rest es) (Adds states done rest es)
rows_from states done [] [] long = ([], sym (append-nil done), tt)
rows_from states done [] (e ∷ es) long = absurd (omega (arith, long))
rows_from states done (s ∷ rest) [] long = absurd (omega (arith, long))
rows_from states done (s ∷ rest) (e ∷ es) long =
    let long' : length es ≡ length rest = omega (arith, long) in
    then (IsStateRow states s e) (Adds states done (s ∷ rest) (e ∷ es)) (files.state_row states s e) (λ row. files.rows_from states (done ++ row ∷ []) rest es) (state_row states s e) (λ row is.
    weaker (Adds states (done ++ row ∷ []) rest es) (Adds states done (s ∷ rest) (e ∷ es)) (files.rows_from states (done ++ row ∷ []) rest es) (rows_from states (done ++ row ∷ []) rest es long') (λ rows h.
    (row ∷ h.0, h.1 ∙ append_assoc done (row ∷ []) h.0, (is, h.2))))

state_rows : (scenarios : List ScenarioRow) (states : List State) (fsm : Node) → AreStates scenarios fsm states → IfOk (files.state_rows states fsm) (AreRows states states (TreeSteps.children (word_of field.State) fsm))
unfolding files.state_rows
state_rows scenarios states fsm are =
    let es = TreeSteps.children (word_of field.State) fsm in
    weaker (Adds states [] states es) (AreRows states states es) (files.rows_from states [] states es) (rows_from states [] states es (pairs-long (IsState scenarios) es states are.rows)) (λ rows h. subst (AreRows states states es) (sym h.1) h.2)

-- ---- the file

-- a section spells a file
record IsFileIn (section : Node) (f : ScenarioFile) : Type 0 where
  fsm : Node
  states : List State
  are_scenarios : AreScenarios section f.scenarios
  are_shared : AreShared f.scenarios f.shared
  one_fsm : TreeSteps.children (word_of field.Fsm) section ≡ fsm ∷ []
  are_states : AreStates f.scenarios fsm states
  initial : IsInitial states fsm f.initial
  are_rows : AreRows states states (TreeSteps.children (word_of field.State) fsm) f.states
  nodes : length states * shared_count f.shared ≤ 1024

-- a section spells states, and in which of them paths begin
record IsAutomatonIn (scenarios : List ScenarioRow) (shared : List SharedRow) (section : Node) (read : List StateRow × ℕ) : Type 0 where
  fsm : Node
  states : List State
  one_fsm : TreeSteps.children (word_of field.Fsm) section ≡ fsm ∷ []
  are_states : AreStates scenarios fsm states
  initial : IsInitial states fsm read.1
  are_rows : AreRows states states (TreeSteps.children (word_of field.State) fsm) read.0
  nodes : length states * shared_count shared ≤ 1024

automaton_in : (scenarios : List ScenarioRow) (shared : List SharedRow) (section : Node) → IfOk (files.automaton_in scenarios shared section) (IsAutomatonIn scenarios shared section)
unfolding files.automaton_in
automaton_in scenarios shared section =
    then (λ c. TreeSteps.children (word_of field.Fsm) section ≡ c ∷ []) _ (TreeSteps.one field.Fsm file section) _ (one field.Fsm file section) (λ fsm one_fsm.
    then (AreStates scenarios fsm) _ (files.states_of scenarios fsm) _ (states_of scenarios fsm) (λ states are_states.
    then (IsInitial states fsm) _ (files.initial_of states fsm) _ (initial_of states fsm) (λ initial is_initial.
    then (AreRows states states (TreeSteps.children (word_of field.State) fsm)) _ (files.state_rows states fsm) _ (state_rows scenarios states fsm are_states) (λ rows are_rows.
    then (λ m. (m ≡ length states * shared_count shared) × (length states * shared_count shared ≤ 1024)) _ (NumberTexts.within quantity.Nodes 1024 (length states * shared_count shared)) _ (within quantity.Nodes 1024 (length states * shared_count shared)) (λ count nodes.
    record { fsm = fsm; states = states; one_fsm = one_fsm; are_states = are_states; initial = is_initial; are_rows = are_rows; nodes = nodes.1 })))))

file_in : (section : Node) → IfOk (files.file_in section) (IsFileIn section)
unfolding files.file_in
file_in section =
    then (AreScenarios section) _ (files.scenarios_of section) _ (scenarios_of section) (λ scenarios are_scenarios.
    then (AreShared scenarios) _ (files.shared_of scenarios) _ (shared_of scenarios) (λ shared are_shared.
    then (IsAutomatonIn scenarios shared section) _ (files.automaton_in scenarios shared section) _ (automaton_in scenarios shared section) (λ read is.
    record { fsm = is.fsm; states = is.states; are_scenarios = are_scenarios; are_shared = are_shared; one_fsm = is.one_fsm; are_states = is.are_states; initial = is.initial; are_rows = is.are_rows; nodes = is.nodes })))

pub file_of : (tree : Node) → IfOk (files.file_of tree) (IsScenarioFile tree)
unfolding files.file_of
file_of tree =
    then (λ root. (root ≡ tree) × (name_of tree ≡ word_of field.Sdf3)) _ (Sections.root_of tree) _ (root_of tree) (λ root is_root.
    then (Has field.TypeWord root) _ (TreeSteps.required field.TypeWord file root) _ (required field.TypeWord file root) (λ word has.
    then (λ w. word ≡ word_of field.Fsmsadf) _ (files.scenario_kind word) _ (scenario_kind word) (λ kind is_kind.
    then (λ c. TreeSteps.children (word_of field.ApplicationGraph) root ≡ c ∷ []) _ (TreeSteps.one field.ApplicationGraph file root) _ (one field.ApplicationGraph file root) (λ graph one_graph.
    then (λ c. TreeSteps.children (word_of field.Fsmsadf) graph ≡ c ∷ []) _ (TreeSteps.one field.Fsmsadf file graph) _ (one field.Fsmsadf file graph) (λ section one_section.
    weaker (IsFileIn section) (IsScenarioFile tree) (files.file_in section) (file_in section) (λ f is.
    record {
      graph = graph;
      section = section;
      fsm = is.fsm;
      states = is.states;
      root = is_root.1;
      kind = subst (λ r. Has field.TypeWord r (word_of field.Fsmsadf)) is_root.0 (has ∙ ap Some is_kind);
      one_graph = subst (λ r. TreeSteps.children (word_of field.ApplicationGraph) r ≡ graph ∷ []) is_root.0 one_graph;
      one_section = one_section;
      are_scenarios = is.are_scenarios;
      are_shared = is.are_shared;
      one_fsm = is.one_fsm;
      are_states = is.are_states;
      initial = is.initial;
      are_rows = is.are_rows;
      nodes = is.nodes;
    }))))))
