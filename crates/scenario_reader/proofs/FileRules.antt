-- A file of scenarios that is read keeps the rules and limits of such files.
use Rattle.std.proofs.Common.{◌≡◌, ◌≢◌, ℕ, suc, ◌+◌, ◌*◌, ◌<◌, ◌≤◌, Bool, true, false, ◌==◌, List, [], ◌∷◌, ◌++◌, length, map, slice_get, Option, Some, None, Result, Ok, Err, refl, sym, ap, subst, arith}
use Rattle.std.specs.Prelude.{IfOk, IsTrue, codes}
use Rattle.std.specs.List.{AllByRecursion, list_any, position}
use Rattle.std.specs.Str.{bytes_eq}
use Rattle.std.proofs.lemmas.Bool.{eqb-false}
use Rattle.std.proofs.lemmas.List.Quantifiers.{position-Some}
use Rattle.std.proofs.lemmas.List.{length_push}
use Rattle.sd_base.specs.declared.limits.Quantity.TheVariants as quantity
use Rattle.sd_base.specs.declared.tables.Kind.TheVariants.{Sdf}
use Rattle.sd_base.specs.declared.tables.GraphFile.{GraphFile}
use Rattle.sd_base.specs.declared.tables.ScenarioFile.{ScenarioFile}
use Rattle.sd_base.specs.declared.tables.ScenarioRow.{ScenarioRow}
use Rattle.sd_base.specs.declared.tables.SharedRow.{SharedRow}
use Rattle.sd_base.specs.declared.tables.StateRow.{StateRow}
use Rattle.sd_base.specs.Tables.{KeepsRules, IsTimed}
use Rattle.sd_base.specs.Scenarios.{shared_count, ScenarioKeepsRules, FileKeepsRules}
use Rattle.sd_base.proofs.ElementsKeepPlaces.{push-all}
use Rattle.file_text.specs.Node.{Node}
use Rattle.graph_reader.specs.declared.field.Field.{Field}
use Rattle.graph_reader.specs.declared.field.Field.TheVariants as field
use Rattle.graph_reader.specs.declared.error.ReadError.{ReadError}
use Rattle.graph_reader.specs.Field.{word_of}
use Rattle.graph_reader.specs.TreeSteps
use Rattle.graph_reader.specs.TreeSteps.{◌>>=◌, file, Gives}
use Rattle.graph_reader.specs.NumberTexts
use Rattle.graph_reader.specs.Sections
use Rattle.graph_reader.specs.Spelled.{Pairwise, EachTwo, IsGraph}
use Rattle.graph_reader.proofs.ReaderSteps.{then, skip, weaker, both, choice}
use Rattle.graph_reader.proofs.NumberLists.{within}
use Rattle.graph_reader.proofs.ElementPlaces.{AfterEach, Follows, each-gives, Related, two-from_after, Counted, few-from_counted, Each-from_none, Each-weaker}
use Rattle.graph_reader.proofs.ReadTreesAreSpelled.{NamesDiffer, graph-kind, names-apart}
use Rattle.graph_reader.proofs.ReadTreesAreSpelled
use Rattle.graph_reader.proofs.TablesKeepRules.{Keeps}
use Rattle.graph_reader.proofs.TablesKeepRules
use Rattle.scenario_reader.specs.declared.states.State.{State}
use Rattle.scenario_reader.specs.ScenarioSections as files
use Rattle.scenario_reader.proofs.SharedRows.{all-at, each-at, one-place, IsShared, HasNames, shared_of, shares}
use Rattle.scenario_reader.specs.ScenarioSpelled.{AreSame}

-- what holds of each element's value holds of all of them
pairs-all : {X : Type 0} (P : X → Type 0) (es : List Node) (xs : List X) → Pairwise (λ e x. P x) es xs → AllByRecursion P xs
pairs-all P [] [] pairs = tt
pairs-all P [] (x ∷ xs) pairs = absurd pairs
pairs-all P (e ∷ es) [] pairs = absurd pairs
pairs-all P (e ∷ es) (x ∷ xs) pairs = (pairs.0, pairs-all P es xs pairs.1)

pairs-long : {X : Type 0} (P : X → Type 0) (es : List Node) (xs : List X) → Pairwise (λ e x. P x) es xs → length es ≡ length xs
pairs-long P [] [] pairs = refl
pairs-long P [] (x ∷ xs) pairs = absurd pairs
pairs-long P (e ∷ es) [] pairs = absurd pairs
pairs-long P (e ∷ es) (x ∷ xs) pairs = ap suc (pairs-long P es xs pairs.1)

-- values that are read of elements: one each, all with the property, each fitting those before it
record AreRead {X : Type 0} (P : X → Type 0) (C : List X → X → Type 0) (es : List Node) (xs : List X) : Type 0 where
  long : length es ≡ length xs
  all : AllByRecursion P xs
  after : AfterEach C [] xs

each-read : {X : Type 0} (P : X → Type 0) (C : List X → X → Type 0) (read : List X → Node → Result X ReadError) → ((done : List X) (e : Node) → IfOk (read done e) (λ x. P x × C done x)) → (es : List Node) → IfOk (TreeSteps.each read [] es) (AreRead P C es)
each-read P C read gives es =
    weaker (Follows (λ e x. P x) C [] es) (AreRead P C es) (TreeSteps.each read [] es) (each-gives (λ e x. P x) C read gives [] es) (λ xs f.
    let pairs : Pairwise (λ e x. P x) es xs = subst (Pairwise (λ e x. P x) es) (sym f.1) f.2 in
    record { long = pairs-long P es xs pairs; all = pairs-all P es xs pairs; after = subst (AfterEach C []) (sym f.1) f.3 })

pub few : {X : Type 0} (limit : ℕ) (xs : List X) → AfterEach (Counted 0 limit) [] xs → length xs ≤ limit
few limit xs after = let counted = few-from_counted 0 limit [] xs (omega arith) after in omega arith

-- ---- scenarios

record ScenarioFits (s : ScenarioRow) : Type 0 where
  rules : KeepsRules s.graph
  kind : s.graph.kind ≡ Sdf
  timed : IsTimed s.graph
  names : HasNames s

record GraphFits (g : GraphFile) : Type 0 where
  rules : KeepsRules g
  kind : g.kind ≡ Sdf
  timed : IsTimed g
  names : EachTwo NamesDiffer g.channels

graph_in : (name : List ℕ) (e : Node) → IfOk (Sections.graph_in Sdf name true e) GraphFits
graph_in name e =
    weaker (λ g. Keeps true g × ((IsTrue true → IsTimed g) → IsGraph Sdf true e g)) GraphFits (Sections.graph_in Sdf name true e)
    (both (Keeps true) (λ g. (IsTrue true → IsTimed g) → IsGraph Sdf true e g) (Sections.graph_in Sdf name true e) (TablesKeepRules.graph_in Sdf name true e) (ReadTreesAreSpelled.graph_in Sdf name true e)) (λ g h.
    let is = h.1 h.0.1 in
    record { rules = h.0.0; kind = graph-kind Sdf true e g is; timed = h.0.1 refl; names = names-apart Sdf true e g is })

scenario_of : (done : List ScenarioRow) (e : Node) → IfOk (files.scenario_of done e) (λ s. ScenarioFits s × Counted 0 64 done s)
unfolding files.scenario_of
scenario_of done e =
    skip _ (Sections.new_name file (map (λ (s : ScenarioRow). s.name) done) e) _ (λ name.
    then (λ m. (m ≡ length done + 1) × (length done + 1 ≤ 64)) _ (NumberTexts.within quantity.Scenarios 64 (length done + 1)) _ (within quantity.Scenarios 64 (length done + 1)) (λ count counted.
    then GraphFits _ (Sections.graph_in Sdf name true e) _ (graph_in name e) (λ graph fits.
    (record { rules = fits.rules; kind = fits.kind; timed = fits.timed; names = fits.names }, omega (arith, counted.1)))))

record ScenariosFit (scenarios : List ScenarioRow) : Type 0 where
  some : 1 ≤ length scenarios
  few : length scenarios ≤ 64
  fit : AllByRecursion ScenarioFits scenarios

some_scenario : (scenarios : List ScenarioRow) → length scenarios ≤ 64 → AllByRecursion ScenarioFits scenarios → IfOk (files.some_scenario scenarios) ScenariosFit
some_scenario [] few fit = tt
some_scenario (s ∷ rest) few fit = record { some = omega arith; few = few; fit = fit }

scenarios_of : (section : Node) → IfOk (files.scenarios_of section) ScenariosFit
unfolding files.scenarios_of
scenarios_of section =
    let es = TreeSteps.children (word_of field.Scenario) section in
    then (AreRead ScenarioFits (Counted 0 64) es) ScenariosFit (TreeSteps.each files.scenario_of [] es) files.some_scenario (each-read ScenarioFits (Counted 0 64) files.scenario_of scenario_of es) (λ scenarios are.
    some_scenario scenarios (few 64 scenarios are.after) are.all)

names-of : (scenarios : List ScenarioRow) → AllByRecursion ScenarioFits scenarios → AllByRecursion HasNames scenarios
names-of [] fit = tt
names-of (s ∷ scenarios) fit = (fit.0.names, names-of scenarios fit.1)

keep-rules : (shared : List SharedRow) (scenarios : List ScenarioRow) (s : ℕ) (row : ScenarioRow) → AllByRecursion ScenarioFits scenarios → IsShared scenarios shared → slice_get scenarios s ≡ Some row → ScenarioKeepsRules shared row
keep-rules shared scenarios s row fit is at =
    let fits = all-at ScenarioFits scenarios s row fit at in
    let same = each-at (λ (t : ScenarioRow). AreSame shared (files.rows_of t.graph.channels)) scenarios s row is.had at in
    record { rules = fits.rules; kind = fits.kind; timed = fits.timed; shares = shares shared row.graph is.apart fits.names same }

-- ---- states

-- a number that is found is a place of the list
place-below : {X : Type 0} (test : X → Bool) (xs : List X) (k : ℕ) → position test xs ≡ Some k → k < length xs
place-below test [] k h = absurd cc
place-below test (y ∷ ys) k h = (position-Some test (y ∷ ys) k y h).0

known-place : {X : Type 0} (what : Field) (name : List ℕ) (test : X → Bool) (xs : List X) → IfOk (Sections.known what name (position test xs)) (λ n. n < length xs)
known-place what name test xs = go (position test xs) refl
  where
    go : (o : Option ℕ) → position test xs ≡ o → IfOk (Sections.known what name o) (λ n. n < length xs)
    go None is = tt
    go (Some n) is = place-below test xs n is

abbrev RunsOneOf : ℕ → State → Type 0
RunsOneOf scenarios s = s.scenario < scenarios

state_of : (scenarios : List ScenarioRow) (done : List State) (e : Node) → IfOk (files.state_of scenarios done e) (λ s. RunsOneOf (length scenarios) s × Counted 0 256 done s)
unfolding files.state_of
state_of scenarios done e =
    skip _ (Sections.new_name file (map (λ (s : State). s.name) done) e) _ (λ name.
    then (λ m. (m ≡ length done + 1) × (length done + 1 ≤ 256)) _ (NumberTexts.within quantity.AutomatonStates 256 (length done + 1)) _ (within quantity.AutomatonStates 256 (length done + 1)) (λ count counted.
    skip _ (TreeSteps.required field.Scenario name e) _ (λ scenario_name.
    then (λ n. n < length scenarios) _ (Sections.known field.Scenario scenario_name (files.scenario_number scenarios scenario_name)) _ (known-place field.Scenario scenario_name (λ (s : ScenarioRow). bytes_eq s.name scenario_name) scenarios) (λ scenario below.
    (below, omega (arith, counted.1))))))

record StatesFit (scenarios : ℕ) (es : List Node) (states : List State) : Type 0 where
  some : 1 ≤ length states
  few : length states ≤ 256
  long : length es ≡ length states
  run : AllByRecursion (RunsOneOf scenarios) states

some_state : (scenarios : ℕ) (es : List Node) (states : List State) → length states ≤ 256 → length es ≡ length states → AllByRecursion (RunsOneOf scenarios) states → IfOk (files.some_state states) (StatesFit scenarios es)
some_state scenarios es [] few long run = tt
some_state scenarios es (s ∷ rest) few long run = record { some = omega arith; few = few; long = long; run = run }

states_of : (scenarios : List ScenarioRow) (fsm : Node) → IfOk (files.states_of scenarios fsm) (StatesFit (length scenarios) (TreeSteps.children (word_of field.State) fsm))
unfolding files.states_of
states_of scenarios fsm =
    let es = TreeSteps.children (word_of field.State) fsm in
    let P = RunsOneOf (length scenarios) in
    then (AreRead P (Counted 0 256) es) (StatesFit (length scenarios) es) (TreeSteps.each (files.state_of scenarios) [] es) files.some_state (each-read P (Counted 0 256) (files.state_of scenarios) (state_of scenarios) es) (λ states are.
    some_state (length scenarios) es states (few 256 states are.after) are.long are.all)

initial_of : (states : List State) (fsm : Node) → IfOk (files.initial_of states fsm) (λ n. n < length states)
unfolding files.initial_of
initial_of states fsm =
    skip _ (TreeSteps.required field.InitialState file fsm) _ (λ name. known-place field.InitialState name (λ (s : State). bytes_eq s.name name) states)

-- ---- successors

abbrev pub Differ : ℕ → ℕ → Type 0
Differ m n = m ≢ n

abbrev pub NoCount : List ℕ → ℕ → Type 0
NoCount done n = Unit {0}

abbrev IsNew : List ℕ → ℕ → Type 0
IsNew = Related Differ NoCount

new_next : (limit : ℕ) (done : List ℕ) (name : List ℕ) (next : ℕ) → next < limit → IfOk (files.new_next done name next) (λ n. (n < limit) × IsNew done n)
new_next limit done name next below =
    choice (λ n. (n < limit) × IsNew done n) (list_any (λ other. other == next) done) _ (Ok next) (λ h. tt) (λ none.
    (below, (Each-weaker (λ other. (other == next) ≡ false) (λ other. other ≢ next) done (Each-from_none (λ other. other == next) done none) (λ other h. eqb-false other next h), tt)))

next_of : (states : List State) (of : List ℕ) (done : List ℕ) (e : Node) → IfOk (files.next_of states of done e) (λ n. (n < length states) × IsNew done n)
unfolding files.next_of
next_of states of done e =
    skip _ (TreeSteps.required field.State of e) _ (λ name.
    then (λ n. n < length states) _ (Sections.known field.State name (files.state_number states name)) _ (known-place field.State name (λ (s : State). bytes_eq s.name name) states) (λ next below.
    new_next (length states) done name next below))

record NextFit (states : ℕ) (next : List ℕ) : Type 0 where
  some : 1 ≤ length next
  known : AllByRecursion (λ n. n < states) next
  apart : EachTwo Differ next

some_next : (states : ℕ) (of next : List ℕ) → AllByRecursion (λ n. n < states) next → EachTwo Differ next → IfOk (files.some_next of next) (NextFit states)
some_next states of [] known apart = tt
some_next states of (r ∷ rest) known apart = record { some = omega arith; known = known; apart = apart }

successors_of : (states : List State) (of : List ℕ) (e : Node) → IfOk (files.successors_of states of e) (NextFit (length states))
unfolding files.successors_of
successors_of states of e =
    let es = TreeSteps.children (codes "next") e in
    let P : ℕ → Type 0 = λ n. n < length states in
    then (AreRead P IsNew es) (NextFit (length states)) (TreeSteps.each (files.next_of states of) [] es) (files.some_next of) (each-read P IsNew (files.next_of states of) (next_of states of) es) (λ next are.
    some_next (length states) of next are.all (two-from_after Differ NoCount next are.after))

record RowFits (scenarios states : ℕ) (row : StateRow) : Type 0 where
  runs : row.scenario < scenarios
  next : NextFit states row.next

state_row : (scenarios : ℕ) (states : List State) (s : State) (e : Node) → s.scenario < scenarios → IfOk (files.state_row states s e) (RowFits scenarios (length states))
unfolding files.state_row
state_row scenarios states s e below =
    then (NextFit (length states)) (RowFits scenarios (length states)) (files.successors_of states s.name e) _ (successors_of states s.name e) (λ next fits. record { runs = below; next = fits })

record RowsFit (scenarios states count : ℕ) (rows : List StateRow) : Type 0 where
  long : length rows ≡ count
  fit : AllByRecursion (RowFits scenarios states) rows

rows_from : (scenarios : ℕ) (states : List State) (done : List StateRow) (rest : List State) (es : List Node) → length es ≡ length rest → AllByRecursion (RunsOneOf scenarios) rest → AllByRecursion (RowFits scenarios (length states)) done →
    IfOk (files.rows_from states done rest es) (RowsFit scenarios (length states) (length done + length rest))
rows_from scenarios states done [] es long run fit = record { long = omega arith; fit = fit }
rows_from scenarios states done (s ∷ rest) [] long run fit = absurd cc
rows_from scenarios states done (s ∷ rest) (e ∷ es) long run fit =
    let long' : length es ≡ length rest = omega (arith, long) in
    then (RowFits scenarios (length states)) (RowsFit scenarios (length states) (length done + length (s ∷ rest))) (files.state_row states s e) (λ row. files.rows_from states (done ++ row ∷ []) rest es) (state_row scenarios states s e run.0) (λ row fits.
    weaker (RowsFit scenarios (length states) (length (done ++ row ∷ []) + length rest)) (RowsFit scenarios (length states) (length done + length (s ∷ rest))) (files.rows_from states (done ++ row ∷ []) rest es)
    (rows_from scenarios states (done ++ row ∷ []) rest es long' run.1 (push-all (RowFits scenarios (length states)) done row fit fits)) (λ rows h.
    let push = length_push done row in
    let same = h.long in
    record { long = omega arith; fit = h.fit }))

state_rows : (scenarios : ℕ) (states : List State) (fsm : Node) → StatesFit scenarios (TreeSteps.children (word_of field.State) fsm) states → IfOk (files.state_rows states fsm) (RowsFit scenarios (length states) (length states))
unfolding files.state_rows
state_rows scenarios states fsm fits =
    weaker (RowsFit scenarios (length states) (0 + length states)) (RowsFit scenarios (length states) (length states)) (files.rows_from states [] states (TreeSteps.children (word_of field.State) fsm))
    (rows_from scenarios states [] states (TreeSteps.children (word_of field.State) fsm) fits.long fits.run tt) (λ rows h.
    let same = h.long in
    record { long = omega arith; fit = h.fit })

-- ---- the file

made : (scenarios : List ScenarioRow) (shared : List SharedRow) (states : List State) (rows : List StateRow) (initial : ℕ) (es : List Node) → ScenariosFit scenarios → IsShared scenarios shared → StatesFit (length scenarios) es states → initial < length states
    → RowsFit (length scenarios) (length states) (length states) rows → length states * shared_count shared ≤ 1024 → FileKeepsRules (record { scenarios = scenarios; shared = shared; states = rows; initial = initial })
made scenarios shared states rows initial es fit is states_fit below rows_fit nodes =
    let same : length states ≡ length rows = sym rows_fit.long in
    let row-at : (q : ℕ) (s : StateRow) → slice_get rows q ≡ Some s → RowFits (length scenarios) (length states) s = λ q s at. all-at (RowFits (length scenarios) (length states)) rows q s rows_fit.fit at in
    record {
      some_scenario = fit.some;
      few_scenarios = fit.few;
      some_state = subst (λ n. 1 ≤ n) same states_fit.some;
      few_states = subst (λ n. n ≤ 256) same states_fit.few;
      few_nodes = subst (λ n. n * shared_count shared ≤ 1024) same nodes;
      scenarios = λ s row at. keep-rules shared scenarios s row fit.fit is at;
      leads_on = record {
        initial = subst (λ n. initial < n) same below;
        scenarios = λ q s at. (row-at q s at).runs;
        next = λ q s at. (row-at q s at).next.some;
        known = λ q p r s at to. subst (λ n. r < n) same (all-at (λ n. n < length states) s.next p r (row-at q s at).next.known to);
      };
      once = λ q i j r s at to from. one-place (λ n. n) s.next i j r r (row-at q s at).next.apart to from refl;
    }

-- the states that are read, and in which of them paths begin, fit the scenarios
record AutomatonFits (scenarios : List ScenarioRow) (shared : List SharedRow) (read : List StateRow × ℕ) : Type 0 where
  states : List State
  es : List Node
  states_fit : StatesFit (length scenarios) es states
  below : read.1 < length states
  rows_fit : RowsFit (length scenarios) (length states) (length states) read.0
  nodes : length states * shared_count shared ≤ 1024

automaton_in : (scenarios : List ScenarioRow) (shared : List SharedRow) (section : Node) → IfOk (files.automaton_in scenarios shared section) (AutomatonFits scenarios shared)
unfolding files.automaton_in
automaton_in scenarios shared section =
    skip _ (TreeSteps.one field.Fsm file section) _ (λ fsm.
    then (StatesFit (length scenarios) (TreeSteps.children (word_of field.State) fsm)) _ (files.states_of scenarios fsm) _ (states_of scenarios fsm) (λ states states_fit.
    then (λ n. n < length states) _ (files.initial_of states fsm) _ (initial_of states fsm) (λ initial below.
    then (RowsFit (length scenarios) (length states) (length states)) _ (files.state_rows states fsm) _ (state_rows (length scenarios) states fsm states_fit) (λ rows rows_fit.
    then (λ m. (m ≡ length states * shared_count shared) × (length states * shared_count shared ≤ 1024)) _ (NumberTexts.within quantity.Nodes 1024 (length states * shared_count shared)) _ (within quantity.Nodes 1024 (length states * shared_count shared)) (λ count nodes.
    record { states = states; es = TreeSteps.children (word_of field.State) fsm; states_fit = states_fit; below = below; rows_fit = rows_fit; nodes = nodes.1 })))))

file_in : (section : Node) → IfOk (files.file_in section) FileKeepsRules
unfolding files.file_in
file_in section =
    then ScenariosFit _ (files.scenarios_of section) _ (scenarios_of section) (λ scenarios fit.
    then (IsShared scenarios) _ (files.shared_of scenarios) _ (shared_of scenarios (names-of scenarios fit.fit)) (λ shared is.
    then (AutomatonFits scenarios shared) _ (files.automaton_in scenarios shared section) _ (automaton_in scenarios shared section) (λ read fits.
    made scenarios shared fits.states read.0 read.1 fits.es fit is fits.states_fit fits.below fits.rows_fit fits.nodes)))

file_of : (tree : Node) → IfOk (files.file_of tree) FileKeepsRules
unfolding files.file_of
file_of tree =
    skip _ (Sections.root_of tree) _ (λ root.
    skip _ (TreeSteps.required field.TypeWord file root) _ (λ word.
    skip _ (files.scenario_kind word) _ (λ kind.
    skip _ (TreeSteps.one field.ApplicationGraph file root) _ (λ graph.
    skip _ (TreeSteps.one field.Fsmsadf file graph) _ (λ section. file_in section)))))

-- what is read keeps the rules
pub keeps_rules : (tree : Node) (result : Result ScenarioFile ReadError) → Gives (λ f. f) result (files.file_of tree) → IfOk result FileKeepsRules
keeps_rules tree (Ok f) gives = subst (λ r. IfOk r FileKeepsRules) gives (file_of tree)
keeps_rules tree (Err e) gives = tt
