-- The matrices that a timed graph needs give the graph that all give.
use Rattle.std.proofs.Common.{◌≡◌, ℕ, zero, suc, ◌+◌, ◌*◌, ◌<◌, inl, inr, List, [], ◌∷◌, ◌++◌, length, Option, Some, refl, ap, sym, ◌∙◌, arith}
use Rattle.std.specs.Prelude.{slice_get, slice_index_or}
use Rattle.std.proofs.lemmas.Bool.{cases_lt}
use Rattle.std.proofs.lemmas.List.{length_push}
use Rattle.sd_base.specs.declared.tables.ScenarioFile.{ScenarioFile}
use Rattle.sd_base.specs.declared.tables.StateRow.{StateRow}
use Rattle.sd_base.specs.Scenarios.{shared_count, LeadsOn}
use Rattle.sd_base.proofs.ElementsKeepPlaces.{get-there}
use Rattle.automaton.specs.declared.graph.Edge.{Edge}
use Rattle.automaton.specs.declared.graph.TimedGraph.{TimedGraph}
use Rattle.automaton.specs.TimedGraphs.{AreKept, AreMatrices, AreSized, IsProduct, IsRun, edges_from, edges_out}

abbrev Entries : Type 0
Entries = List (List (Option ℕ))

-- none of the states before place i runs a scenario
abbrev pub NoneRuns : List StateRow → ℕ → ℕ → Type 0
NoneRuns states scenario i = (q : ℕ) (s : StateRow) → q < i → slice_get states q ≡ Some s → s.scenario ≡ scenario → ⊥

pub none-more : (states : List StateRow) (scenario i : ℕ) (state : StateRow) → slice_get states i ≡ Some state → (state.scenario ≡ scenario → ⊥) → NoneRuns states scenario i
    → NoneRuns states scenario (i + 1)
none-more states scenario i state at other so_far q s below here is = elim (cases_lt q i) [
  | inl before ↦ so_far q s before here is
  | inr after ↦
      let last : q ≡ i = omega arith in
      let e : ◌≡◌ {A = Option StateRow} (Some state) (Some s) = sym at ∙ ap (slice_get states) (sym last) ∙ here in
      let same : state ≡ s = cc (e) in
      other (ap (λ (r : StateRow). r.scenario) same ∙ is)
]

pub kept-same : (file : ScenarioFile) (all : List Entries) → AreKept file all all
kept-same file all = record { long = refl; same = λ s run. refl }

pub kept-again : (file : ScenarioFile) (all some kept : List Entries) → AreKept file all some → AreKept file some kept → AreKept file all kept
kept-again file all some kept first second = record { long = second.long ∙ first.long; same = λ s run. second.same s run ∙ first.same s run }

-- one more scenario
more : (P : ℕ → Type 0) (all kept : List Entries) (m k : Entries) → length kept ≡ length all → ((s : ℕ) → P s → slice_index_or kept s [] ≡ slice_index_or all s [])
    → (P (length all) → k ≡ m) → (s : ℕ) → P s → slice_index_or (kept ++ k ∷ []) s [] ≡ slice_index_or (all ++ m ∷ []) s []
more P [] [] m k long same last zero run = last run
more P [] [] m k long same last (suc s) run = refl
more P [] (y ∷ kept) m k long same last s run = absurd (omega (arith, long))
more P (x ∷ all) [] m k long same last s run = absurd (omega (arith, long))
more P (x ∷ all) (y ∷ kept) m k long same last zero run = same 0 run
more P (x ∷ all) (y ∷ kept) m k long same last (suc s) run = more (λ (t : ℕ). P (suc t)) all kept m k (omega (arith, long)) (λ t there. same (suc t) there) last s run

pub kept-more : (file : ScenarioFile) (all kept : List Entries) (m k : Entries) → AreKept file all kept → (IsRun file (length all) → k ≡ m) → AreKept file (all ++ m ∷ []) (kept ++ k ∷ [])
kept-more file all kept m k are last = record {
  long = length_push kept k ∙ ap (λ n. n + 1) are.long ∙ sym (length_push all m);
  same = more (IsRun file) all kept m k are.long are.same last;
}

-- the edges are those by all matrices
edges-same : (n q : ℕ) (all kept : List Entries) (states : List StateRow)
    → ((p : ℕ) (s : StateRow) → slice_get states p ≡ Some s → slice_index_or kept s.scenario [] ≡ slice_index_or all s.scenario [])
    → edges_from n q kept states ≡ edges_from n q all states
edges-same n q all kept [] same = refl
edges-same n q all kept (s ∷ states) same =
    ap (λ (m : Entries). edges_out n (q * n) m s.next ++ edges_from n (q + 1) kept states) (same 0 s refl)
    ∙ ap (λ (z : List Edge). edges_out n (q * n) (slice_index_or all s.scenario []) s.next ++ z) (edges-same n (q + 1) all kept states (λ p r at. same (suc p) r at))

pub kept-edges : (file : ScenarioFile) (all kept : List Entries) → AreKept file all kept → (n q : ℕ) → edges_from n q kept file.states ≡ edges_from n q all file.states
kept-edges file all kept are n q = edges-same n q all kept file.states (λ p s at. are.same s.scenario (p, s, at, refl))

pub kept-sized : (file : ScenarioFile) (all kept : List Entries) (n : ℕ) → AreKept file all kept → AreSized n all file.states → AreSized n kept file.states
kept-sized file all kept n are sized = λ q s at. ap (λ (m : Entries). length m) (are.same s.scenario (q, s, at, refl)) ∙ sized q s at

pub is-product : (file : ScenarioFile) (kept : List Entries) (graph : TimedGraph) → LeadsOn file → graph.tokens ≡ shared_count file.shared → graph.initial ≡ file.initial
    → graph.states ≡ length file.states → graph.edges ≡ edges_from (shared_count file.shared) 0 kept file.states → IsProduct file kept graph
is-product file kept graph leads tokens initial states edges = record {
  tokens = tokens;
  initial = initial;
  states = states;
  edges = edges;
  timed = λ all are matrices. record {
    matrices = all;
    are_matrices = matrices;
    leads_on = leads;
    tokens = tokens;
    initial = initial;
    states = states;
    edges = edges ∙ kept-edges file all kept are (shared_count file.shared) 0;
  };
}

-- the graph by those that are kept is the graph by all
pub kept-product : (file : ScenarioFile) (all kept : List Entries) (graph : TimedGraph) → AreKept file all kept → IsProduct file kept graph → IsProduct file all graph
kept-product file all kept graph are is = record {
  tokens = is.tokens;
  initial = is.initial;
  states = is.states;
  edges = is.edges ∙ kept-edges file all kept are (shared_count file.shared) 0;
  timed = λ more first matrices. is.timed more (kept-again file more all kept first are) matrices;
}

-- the matrices of a file's scenarios have a row for each shared token
pub matrices-sized : (file : ScenarioFile) (all : List Entries) → LeadsOn file → AreMatrices file all → AreSized (shared_count file.shared) all file.states
matrices-sized file all leads are = λ q s at.
    let row = get-there file.scenarios s.scenario (leads.scenarios q s at) in
    let m = are.each s.scenario row.0 row.1 in
    m.2.size
