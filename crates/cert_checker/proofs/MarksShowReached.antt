-- Where marks keep to all edges from the starts on, the marked nodes are those that are reached.
use Rattle.std.proofs.Common.{◌≡◌, ◌≢◌, ℕ, zero, suc, ◌+◌, ◌-◌, ◌*◌, ◌≤◌, ◌<◌, ◌↔◌, Bool, true, false, true≢false, ltb-true, lt-ltb, List, [], ◌∷◌, ◌++◌, length, set, refl, sym, ap, subst, ◌∙◌, ⊎_elim, arith}
use Rattle.std.specs.Prelude.{slice_get, slice_index_or, Some, IsTrue, nat_lt}
use Rattle.std.proofs.lemmas.Bool.{cases_lt, cases_eq}
use Rattle.std.proofs.lemmas.Option.{slice_get_within, slice_get-get_or}
use Rattle.std.proofs.lemmas.List.{get_or-set_other, get_or_past, get_or_append_left, get_or_push}
use Rattle.automaton.specs.declared.graph.Edge.{Edge}
use Rattle.automaton.specs.declared.graph.TimedGraph.{TimedGraph}
use Rattle.automaton.specs.CriticalCycles.{IsPath, IsReachedNode, IsStart}
use Rattle.automaton.proofs.WalksJoinAndRepeat.{path-append, start-inside}
use Rattle.automaton.specs.SoundGraphs.{IsSound}
use Rattle.cert_checker.specs.inside.Marks.{mark_at, unmarked, AreSoundMarks, AreKept, IsKept, HasStarts, AreReached}

pub unmarked-set : (marks : List Bool) (i : ℕ) → i < length marks → mark_at marks i ≡ false → suc (unmarked (set marks i true)) ≡ unmarked marks
unfolding unmarked
unmarked-set [] i below off = absurd (omega arith)
unmarked-set (true ∷ ms) zero below off = absurd (true≢false off)
unmarked-set (false ∷ ms) zero below off = refl
unmarked-set (true ∷ ms) (suc i) below off = unmarked-set ms i (omega arith) off
unmarked-set (false ∷ ms) (suc i) below off = ap suc (unmarked-set ms i (omega arith) off)

-- one more node that is reached
pub sound-more : (graph : TimedGraph) (marks : List Bool) (i : ℕ) → i < length marks → IsReachedNode graph i → AreSoundMarks graph marks → AreSoundMarks graph (set marks i true)
sound-more graph marks i below reached sound v on = ⊎_elim
    (λ (same : v ≡ i). subst (IsReachedNode graph) (sym same) reached)
    (λ (other : v ≢ i). sound v (sym (get_or-set_other marks i v true false other) ∙ on))
    (cases_eq v i)

pub reached-on : (graph : TimedGraph) (k : ℕ) (e : Edge) → slice_get graph.edges k ≡ Some e → IsReachedNode graph e.from → IsReachedNode graph e.to
reached-on graph k e is (u, ks, start, path) = (u, ks ++ k ∷ [], start, path-append graph.edges ks (k ∷ []) u e.from e.to path (e, is, refl, refl))

-- the marks along a walk
along-marks : (graph : TimedGraph) (marks : List Bool) → AreKept graph.edges (length graph.edges) marks → (ks : List ℕ) (u v : ℕ) → mark_at marks u ≡ true → IsPath graph.edges u ks v → mark_at marks v ≡ true
along-marks graph marks kept [] u v on path = subst (λ (x : ℕ). mark_at marks x ≡ true) path on
along-marks graph marks kept (k ∷ ks) u v on (e, is, from, rest) =
    along-marks graph marks kept ks e.to v (kept k (slice_get_within graph.edges k e is) e is (subst (λ (x : ℕ). mark_at marks x ≡ true) from on)) rest

-- where all is kept, the marks are right
pub all-reached : (graph : TimedGraph) (marks : List Bool) → length marks ≡ graph.states * graph.tokens → AreSoundMarks graph marks → HasStarts graph marks
    → AreKept graph.edges (length graph.edges) marks → AreReached graph marks
all-reached graph marks size sound starts kept = record {
  size = size;
  exact = λ v. (λ on. sound v on, λ reached. along-marks graph marks kept reached.1 reached.0 v (starts reached.0 reached.2) reached.3);
}

-- the starts are reached
pub starts-sound : (graph : TimedGraph) (marks : List Bool) → ((v : ℕ) → mark_at marks v ≡ true ↔ IsStart graph v) → AreSoundMarks graph marks
starts-sound graph marks exact v on = (v, [], (exact v).0 on, refl)

-- a node from the first one of the initial state on
pub start-decides : (first tokens node : ℕ) → first ≤ node → IsTrue (nat_lt (node - first) tokens) ↔ ((i : ℕ) × (i < tokens) × (node ≡ first + i))
start-decides first tokens node from = (
  (λ yes. (node - first, ltb-true (node - first) tokens yes, omega arith)),
  (λ (i, less, at). lt-ltb (node - first) tokens (omega arith)),
)

-- one more mark
pub starts-more : (graph : TimedGraph) (old new : List Bool) (n : ℕ) (b : Bool) → length old ≡ n → ((v : ℕ) → v < n → (mark_at old v ≡ true) ↔ IsStart graph v) → IsTrue b ↔ IsStart graph n → new ≡ old ++ b ∷ []
    → (v : ℕ) → v < n + 1 → (mark_at new v ≡ true) ↔ IsStart graph v
starts-more graph old new n b long so_far is pushed v below = ⊎_elim
    (λ (early : v < n).
    let same : mark_at new v ≡ mark_at old v = ap (λ (ms : List Bool). mark_at ms v) pushed ∙ get_or_append_left old (b ∷ []) false v (omega arith) in
    ((λ on. (so_far v early).0 (sym same ∙ on)), (λ start. same ∙ (so_far v early).1 start)))
    (λ (last : n ≤ v).
    let e : v ≡ length old = omega arith in
    let at : n ≡ v = omega arith in
    let same : mark_at new v ≡ b = ap (λ (ms : List Bool). mark_at ms v) pushed ∙ get_or_push old b false v (sym e) in
    ((λ on. subst (IsStart graph) at (is.0 (sym same ∙ on))), (λ start. same ∙ is.1 (subst (IsStart graph) (sym at) start))))
    (cases_lt v n)

-- so marks of the first nodes are those of all
pub starts-all : (graph : TimedGraph) (marks : List Bool) (n : ℕ) → graph.initial < graph.states → length marks ≡ n → n ≡ graph.states * graph.tokens → ((v : ℕ) → v < n → (mark_at marks v ≡ true) ↔ IsStart graph v)
    → (v : ℕ) → (mark_at marks v ≡ true) ↔ IsStart graph v
starts-all graph marks n some long whole exact v = ⊎_elim
    (λ (here : v < n). exact v here)
    (λ (past : n ≤ v).
    ((λ on. absurd (true≢false (sym on ∙ get_or_past marks v false (omega arith)))), (λ start. absurd (let within = start-inside graph some v start in omega arith))))
    (cases_lt v n)

-- the end of an edge from a marked node
pub mark-reached : (graph : TimedGraph) (es : List Edge) (n : ℕ) (d : Edge) (marks : List Bool) → es ≡ graph.edges → n < length graph.edges → mark_at marks (slice_index_or es n d).from ≡ true
    → (slice_index_or es n d).to < length marks → AreSoundMarks graph marks → AreSoundMarks graph (set marks (slice_index_or es n d).to true)
mark-reached graph es n d marks same within on below sound =
    let at : slice_get graph.edges n ≡ Some (slice_index_or es n d) = slice_get-get_or graph.edges n d within ∙ ap (λ (xs : List Edge). Some (slice_index_or xs n d)) (sym same) in
    sound-more graph marks (slice_index_or es n d).to below (reached-on graph n (slice_index_or es n d) at (sound (slice_index_or es n d).from on)) sound

pub fewer-left : (marks : List Bool) (i : ℕ) → i < length marks → mark_at marks i ≡ false → unmarked (set marks i true) < unmarked marks
fewer-left marks i below off = omega (arith, unmarked-set marks i below off)

pub kept-more : (es : List Edge) (n : ℕ) (old new : List Bool) → new ≡ old → AreKept es n old → IsKept es n new → AreKept es (n + 1) new
kept-more es n old new same kept last k below = ⊎_elim
    (λ (early : k < n). subst (IsKept es k) (sym same) (kept k early))
    (λ (late : n ≤ k). subst (λ (j : ℕ). IsKept es j new) (let e : n ≡ k = omega arith in e) last)
    (cases_lt k n)

-- the ends of edges are nodes
pub ends-inside : (graph : TimedGraph) (es : List Edge) (n : ℕ) (d : Edge) (size : ℕ) → IsSound graph → es ≡ graph.edges → n < length graph.edges → size ≡ graph.states * graph.tokens
    → ((slice_index_or es n d).from < size) × ((slice_index_or es n d).to < size)
ends-inside graph es n d size sound same within long =
    let at : slice_get graph.edges n ≡ Some (slice_index_or es n d) = slice_get-get_or graph.edges n d within ∙ ap (λ (xs : List Edge). Some (slice_index_or xs n d)) (sym same) in
    (omega (arith, sound.edges.from n (slice_index_or es n d) at), omega (arith, sound.edges.to n (slice_index_or es n d) at))

-- the mark that is read at a node
pub mark-read : (marks : List Bool) (i : ℕ) (b : Bool) → i < length marks → b ≡ slice_index_or marks i b → b ≡ mark_at marks i
mark-read [] i b below read = absurd (omega arith)
mark-read (m ∷ ms) zero b below read = read
mark-read (m ∷ ms) (suc i) b below read = mark-read ms i b (omega arith) read
