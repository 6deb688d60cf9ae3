-- What a tree spells is read of it.
use Rattle.std.proofs.Common.{◌≡◌, ◌≢◌, ℕ, ◌+◌, ◌*◌, ◌≤◌, true, false, ◌==◌, List, [], ◌∷◌, ◌++◌, length, map, Result, Ok, refl, sym, ap, ◌∙◌, append_assoc, arith}
use Rattle.std.specs.Prelude.{codes}
use Rattle.std.specs.List.{list_any}
use Rattle.std.proofs.lemmas.Bool.{false_from_ne_true, eqb-true}
use Rattle.std.proofs.lemmas.List.{append-nil}
use Rattle.sd_base.specs.declared.limits.Quantity.TheVariants as quantity
use Rattle.sd_base.specs.declared.tables.Kind.TheVariants.{Sdf}
use Rattle.sd_base.specs.declared.tables.ScenarioFile.{ScenarioFile}
use Rattle.sd_base.specs.declared.tables.ScenarioRow.{ScenarioRow}
use Rattle.sd_base.specs.declared.tables.SharedRow.{SharedRow}
use Rattle.sd_base.specs.declared.tables.StateRow.{StateRow}
use Rattle.sd_base.specs.Scenarios.{shared_count}
use Rattle.file_text.specs.Node.{Node}
use Rattle.file_text.specs.Grammar.{Each}
use Rattle.graph_reader.specs.declared.field.Field.TheVariants as field
use Rattle.graph_reader.specs.declared.error.ReadError.{ReadError}
use Rattle.graph_reader.specs.Field.{word_of}
use Rattle.graph_reader.specs.TreeSteps
use Rattle.graph_reader.specs.TreeSteps.{◌>>=◌, file}
use Rattle.graph_reader.specs.NumberTexts
use Rattle.graph_reader.specs.Sections
use Rattle.graph_reader.proofs.ReaderSteps.{then-ok}
use Rattle.graph_reader.proofs.NumberLists.{within-again}
use Rattle.graph_reader.proofs.ElementPlaces.{each-given, Related, after-from_two, Counted, counted-from_few, no-count, none-from_Each, Each-weaker}
use Rattle.graph_reader.proofs.SpelledTreesAreRead.{required, new_name, one, root_of, graph_in}
use Rattle.scenario_reader.specs.declared.states.State.{State}
use Rattle.scenario_reader.specs.ScenarioSections as files
use Rattle.scenario_reader.specs.ScenarioSpelled.{IsScenario, AreScenarios, AreSame, AreShared, IsState, AreStates, IsInitial, NamesSuccessor, IsStateRow, AreRows, IsScenarioFile}
use Rattle.scenario_reader.proofs.SharedRows.{share-again}
use Rattle.scenario_reader.proofs.ScenarioFound.{ScenariosDiffer, StatesDiffer}
use Rattle.scenario_reader.proofs.FileRules.{Differ, NoCount}

scenario_kind : files.scenario_kind (word_of field.Fsmsadf) ≡ Ok (word_of field.Fsmsadf)
unfolding files.scenario_kind word_of
scenario_kind = refl

-- ---- scenarios

scenario_of : (done : List ScenarioRow) (e : Node) (s : ScenarioRow) → IsScenario e s → Related ScenariosDiffer (Counted 0 64) done s → files.scenario_of done e ≡ Ok s
unfolding files.scenario_of
scenario_of done e s is new =
    let count : length done + 1 ≤ 64 = omega (arith, new.1) in
    then-ok (Sections.new_name file (map (λ (t : ScenarioRow). t.name) done) e) _ s.name (Ok s) (new_name (λ (t : ScenarioRow). t.name) file done e s.name is.name new.0) (
    then-ok (NumberTexts.within quantity.Scenarios 64 (length done + 1)) _ (length done + 1) (Ok s) (within-again quantity.Scenarios 64 (length done + 1) count) (
    then-ok (Sections.graph_in Sdf s.name true e) _ s.graph (Ok s) (graph_in Sdf s.name true e s.graph is.graph) refl))

some_scenario : (scenarios : List ScenarioRow) → 1 ≤ length scenarios → files.some_scenario scenarios ≡ Ok scenarios
some_scenario [] some = absurd (omega (arith, some))
some_scenario (s ∷ rest) some = refl

scenarios_of : (section : Node) (scenarios : List ScenarioRow) → AreScenarios section scenarios → files.scenarios_of section ≡ Ok scenarios
unfolding files.scenarios_of
scenarios_of section scenarios are =
    let es = TreeSteps.children (word_of field.Scenario) section in
    let few = are.few in
    let after = after-from_two ScenariosDiffer (Counted 0 64) scenarios are.apart (counted-from_few 0 64 [] scenarios (omega arith)) in
    then-ok (TreeSteps.each files.scenario_of [] es) files.some_scenario scenarios (Ok scenarios) (each-given IsScenario (Related ScenariosDiffer (Counted 0 64)) files.scenario_of scenario_of [] es scenarios are.rows after) (some_scenario scenarios are.some)

all_share : (shared : List SharedRow) (scenarios : List ScenarioRow) → Each (λ (t : ScenarioRow). AreSame shared (files.rows_of t.graph.channels)) scenarios → files.all_share shared scenarios ≡ Ok shared
unfolding files.all_share
all_share shared [] all = refl
all_share shared (s ∷ rest) all =
    then-ok (files.share shared (files.rows_of s.graph.channels)) (λ _. files.all_share shared rest) shared (Ok shared) (share-again shared (files.rows_of s.graph.channels) all.0) (all_share shared rest all.1)

shared_of : (scenarios : List ScenarioRow) (shared : List SharedRow) → AreShared scenarios shared → files.shared_of scenarios ≡ Ok shared
unfolding files.shared_of
shared_of [] shared are = ap Ok (sym are)
shared_of (s ∷ rest) shared are = ap (λ rows. files.all_share rows rest) (sym are.0) ∙ all_share shared rest are.1

-- ---- states

state_of : (scenarios : List ScenarioRow) (done : List State) (e : Node) (s : State) → IsState scenarios e s → Related StatesDiffer (Counted 0 256) done s → files.state_of scenarios done e ≡ Ok s
unfolding files.state_of
state_of scenarios done e s is new =
    let count : length done + 1 ≤ 256 = omega (arith, new.1) in
    then-ok (Sections.new_name file (map (λ (t : State). t.name) done) e) _ s.name (Ok s) (new_name (λ (t : State). t.name) file done e s.name is.name new.0) (
    then-ok (NumberTexts.within quantity.AutomatonStates 256 (length done + 1)) _ (length done + 1) (Ok s) (within-again quantity.AutomatonStates 256 (length done + 1) count) (
    then-ok (TreeSteps.required field.Scenario s.name e) _ is.scenario_name (Ok s) (required field.Scenario s.name e is.scenario_name is.has) (
    then-ok (Sections.known field.Scenario is.scenario_name (files.scenario_number scenarios is.scenario_name)) _ s.scenario (Ok s) (ap (Sections.known field.Scenario is.scenario_name) is.runs) refl)))

some_state : (states : List State) → 1 ≤ length states → files.some_state states ≡ Ok states
some_state [] some = absurd (omega (arith, some))
some_state (s ∷ rest) some = refl

states_of : (scenarios : List ScenarioRow) (fsm : Node) (states : List State) → AreStates scenarios fsm states → files.states_of scenarios fsm ≡ Ok states
unfolding files.states_of
states_of scenarios fsm states are =
    let es = TreeSteps.children (word_of field.State) fsm in
    let few = are.few in
    let after = after-from_two StatesDiffer (Counted 0 256) states are.apart (counted-from_few 0 256 [] states (omega arith)) in
    then-ok (TreeSteps.each (files.state_of scenarios) [] es) files.some_state states (Ok states) (each-given (IsState scenarios) (Related StatesDiffer (Counted 0 256)) (files.state_of scenarios) (state_of scenarios) [] es states are.rows after) (some_state states are.some)

initial_of : (states : List State) (fsm : Node) (n : ℕ) → IsInitial states fsm n → files.initial_of states fsm ≡ Ok n
unfolding files.initial_of
initial_of states fsm n (name, has, is) =
    then-ok (TreeSteps.required field.InitialState file fsm) _ name (Ok n) (required field.InitialState file fsm name has) (ap (Sections.known field.InitialState name) is)

-- ---- successors

new_next : (done name : List ℕ) (n : ℕ) → Each (λ m. m ≢ n) done → files.new_next done name n ≡ Ok n
new_next done name n new =
    let none : list_any (λ other. other == n) done ≡ false = none-from_Each (λ other. other == n) done (Each-weaker (λ m. m ≢ n) (λ m. (m == n) ≡ false) done new (λ m differ. false_from_ne_true (m == n) (λ same. differ (eqb-true m n same)))) in
    rw none refl

next_of : (states : List State) (of : List ℕ) (done : List ℕ) (e : Node) (n : ℕ) → NamesSuccessor states e n → Related Differ NoCount done n → files.next_of states of done e ≡ Ok n
unfolding files.next_of
next_of states of done e n (name, has, is) new =
    then-ok (TreeSteps.required field.State of e) _ name (Ok n) (required field.State of e name has) (
    then-ok (Sections.known field.State name (files.state_number states name)) _ n (Ok n) (ap (Sections.known field.State name) is) (new_next done name n new.0))

some_next : (of next : List ℕ) → 1 ≤ length next → files.some_next of next ≡ Ok next
some_next of [] some = absurd (omega (arith, some))
some_next of (r ∷ rest) some = refl

state_row : (states : List State) (s : State) (e : Node) (row : StateRow) → IsStateRow states s e row → files.state_row states s e ≡ Ok row
unfolding files.state_row files.successors_of
state_row states s e row is =
    let es = TreeSteps.children (codes "next") e in
    let after = after-from_two Differ NoCount row.next is.apart (no-count [] row.next) in
    let next : files.successors_of states s.name e ≡ Ok row.next =
    then-ok (TreeSteps.each (files.next_of states s.name) [] es) (files.some_next s.name) row.next (Ok row.next) (each-given (NamesSuccessor states) (Related Differ NoCount) (files.next_of states s.name) (next_of states s.name) [] es row.next is.next after) (some_next s.name row.next is.some) in
    let made : List ℕ → ℕ → StateRow = λ name scenario. record { name = name; scenario = scenario; next = row.next } in
    then-ok (files.successors_of states s.name e) (λ rows. Ok (record { name = s.name; scenario = s.scenario; next = rows })) row.next (Ok row) next
    (ap (λ name. Ok (made name s.scenario)) (sym is.name) ∙ ap (λ scenario. Ok (made row.name scenario)) (sym is.scenario))

rows_from : (states : List State) (done : List StateRow) (rest : List State) (es : List Node) (rows : List StateRow) → AreRows states rest es rows → files.rows_from states done rest es ≡ Ok (done ++ rows)
rows_from states done [] [] [] are = ap Ok (sym (append-nil done))
rows_from states done [] [] (row ∷ rows) are = absurd are
rows_from states done [] (e ∷ es) rows are = absurd are
rows_from states done (s ∷ rest) [] rows are = absurd are
rows_from states done (s ∷ rest) (e ∷ es) [] are = absurd are
rows_from states done (s ∷ rest) (e ∷ es) (row ∷ rows) are =
    then-ok (files.state_row states s e) (λ r. files.rows_from states (done ++ r ∷ []) rest es) row (Ok (done ++ row ∷ rows)) (state_row states s e row are.0)
    (rows_from states (done ++ row ∷ []) rest es rows are.1 ∙ ap Ok (append_assoc done (row ∷ []) rows))

state_rows : (states : List State) (fsm : Node) (rows : List StateRow) → AreRows states states (TreeSteps.children (word_of field.State) fsm) rows → files.state_rows states fsm ≡ Ok rows
unfolding files.state_rows
state_rows states fsm rows are = rows_from states [] states (TreeSteps.children (word_of field.State) fsm) rows are

-- ---- the file

automaton_in : (tree : Node) (f : ScenarioFile) (is : IsScenarioFile tree f) → files.automaton_in f.scenarios f.shared is.section ≡ Ok (f.states, f.initial)
unfolding files.automaton_in
automaton_in tree f is =
    let read : Result (List StateRow × ℕ) ReadError = Ok (f.states, f.initial) in
    then-ok (TreeSteps.one field.Fsm file is.section) _ is.fsm read (one field.Fsm file is.section is.fsm is.one_fsm) (
    then-ok (files.states_of f.scenarios is.fsm) _ is.states read (states_of f.scenarios is.fsm is.states is.are_states) (
    then-ok (files.initial_of is.states is.fsm) _ f.initial read (initial_of is.states is.fsm f.initial is.initial) (
    then-ok (files.state_rows is.states is.fsm) _ f.states read (state_rows is.states is.fsm f.states is.are_rows) (
    then-ok (NumberTexts.within quantity.Nodes 1024 (length is.states * shared_count f.shared)) _ (length is.states * shared_count f.shared) read (within-again quantity.Nodes 1024 (length is.states * shared_count f.shared) is.nodes) refl))))

pub file_of : (tree : Node) (f : ScenarioFile) → IsScenarioFile tree f → files.file_of tree ≡ Ok f
unfolding files.file_of files.file_in
file_of tree f is =
    then-ok (Sections.root_of tree) _ tree (Ok f) (root_of tree is.root) (
    then-ok (TreeSteps.required field.TypeWord file tree) _ (word_of field.Fsmsadf) (Ok f) (required field.TypeWord file tree (word_of field.Fsmsadf) is.kind) (
    then-ok (files.scenario_kind (word_of field.Fsmsadf)) _ (word_of field.Fsmsadf) (Ok f) scenario_kind (
    then-ok (TreeSteps.one field.ApplicationGraph file tree) _ is.graph (Ok f) (one field.ApplicationGraph file tree is.graph is.one_graph) (
    then-ok (TreeSteps.one field.Fsmsadf file is.graph) _ is.section (Ok f) (one field.Fsmsadf file is.graph is.section is.one_section) (
    then-ok (files.scenarios_of is.section) _ f.scenarios (Ok f) (scenarios_of is.section f.scenarios is.are_scenarios) (
    then-ok (files.shared_of f.scenarios) _ f.shared (Ok f) (shared_of f.scenarios f.shared is.are_shared) (
    then-ok (files.automaton_in f.scenarios f.shared is.section) _ (f.states, f.initial) (Ok f) (automaton_in tree f is) refl)))))))
