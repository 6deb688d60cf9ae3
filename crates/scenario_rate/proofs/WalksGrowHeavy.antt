-- Walks of a file's timed graph get heavier and heavier.
use Rattle.std.proofs.Common.{◌≡◌, ℕ, zero, suc, ◌+◌, ◌*◌, ◌%◌, ◌≤◌, ◌<◌, List, [], ◌∷◌, ◌++◌, length, Option, Some, refl, sym, ap, subst, ◌∙◌, inl, inr, arith, length-append}
use Rattle.std.proofs.Math.Nat.{mul-le-mul_right}
use Rattle.std.specs.Prelude.{slice_get, slice_index_or}
use Rattle.std.proofs.lemmas.Nat.{mod-mul-add}
use Rattle.std.proofs.lemmas.Bool.{cases_lt}
use Rattle.sd_base.specs.Scenarios.{shared_count}
use Rattle.automaton.specs.declared.graph.Edge.{Edge}
use Rattle.sd_base.specs.declared.tables.ScenarioFile.{ScenarioFile}
use Rattle.sd_base.proofs.ElementsKeepPlaces.{get-there, some-within}
use Rattle.automaton.specs.declared.graph.TimedGraph.{TimedGraph}
use Rattle.automaton.specs.TimedGraphs.{IsTimedGraph}
use Rattle.automaton.specs.CriticalCycles.{IsPath, weights, weight_in, IsStart}
use Rattle.automaton.proofs.WalksJoinAndRepeat.{path-append}
use Rattle.automaton.proofs.StampsAreWeights.{at_state, edge_at, edge_from}

-- a walk of n edges passes on n tokens less than its weight and its ends allow
progress : (es : List Edge) (n : ℕ) (tok : ℕ → ℕ) → ((v : ℕ) → tok v < n) → ((k : ℕ) (e : Edge) → slice_get es k ≡ Some e → e.weight ≡ 0 → tok e.to < tok e.from)
    → (ks : List ℕ) (u v : ℕ) → IsPath es u ks v → length ks + tok v ≤ weights es ks * n + tok u
progress es n tok below down [] u v h = omega (arith, ap tok h)
progress es n tok below down (k ∷ ks) u v (e, is, from, rest) =
    let more : length ks + tok v ≤ weights es ks * n + tok e.to = progress es n tok below down ks e.to v rest in
    let le : tok e.to < n = below e.to in
    let here : 1 + tok e.to ≤ e.weight * n + tok e.from = elim (cases_lt 0 e.weight) [
      | inl some ↦ let wide : 1 * n ≤ e.weight * n = mul-le-mul_right n some in omega (arith, wide)
      | inr none ↦ let z : e.weight ≡ 0 = omega arith in let lt : tok e.to < tok e.from = down k e is z in omega arith
    ] in
    let a : weight_in (slice_get es k) * n ≡ e.weight * n = ap (λ (o : Option Edge). weight_in o * n) is in
    let b : tok u ≡ tok e.from = ap tok from in
    (let g : suc (length ks) + tok v ≤ (weight_in (slice_get es k) + weights es ks) * n + tok u = omega arith in g)

module _ (file : ScenarioFile) (graph : TimedGraph) (is : IsTimedGraph file graph) where
  -- to each token of some state a walk of n edges leads
  record Reaches (n : ℕ) : Type 0 where
    state : ℕ
    there : state < length file.states
    walk : (j : ℕ) → j < shared_count file.shared → (u : ℕ) × (ks : List ℕ) × IsStart graph u × IsPath graph.edges u ks (state * shared_count file.shared + j) × (length ks ≡ n)

  reaches : (n : ℕ) → Reaches n
  reaches zero = record {
    state = file.initial;
    there = is.leads_on.initial;
    walk = λ j h. (
      file.initial * shared_count file.shared + j,
      [],
      (
        j,
        subst (λ n. j < n) (sym is.tokens) h,
        ap (λ n. file.initial * n + j) (sym is.tokens) ∙ ap (λ q. q * graph.tokens + j) (sym is.initial),
      ),
      refl,
      refl,
    );
  }
  reaches (suc n) =
      let b = reaches n in
      let s = get-there file.states b.state b.there in
      let r = get-there s.0.next 0 (let h : 1 ≤ length s.0.next = is.leads_on.next b.state s.0 s.1 in omega arith) in
      let a = at_state file graph is b.state s.0 s.1 in
      record {
        state = r.0;
        there = is.leads_on.known b.state 0 r.0 s.0 s.1 r.1;
        walk = λ j h.
            (let f = a.matrix.full j h in
            let i : f.0 < shared_count file.shared = (let c : f.0 < length (slice_index_or (slice_index_or is.matrices s.0.scenario []) j []) = some-within (slice_index_or (slice_index_or is.matrices s.0.scenario []) j []) f.0 f.1 f.2 in
            let d : length (slice_index_or (slice_index_or is.matrices s.0.scenario []) j []) ≡ shared_count file.shared = a.matrix.square j h in omega arith) in
            let w = b.walk f.0 i in
            let e = edge_at file graph is b.state r.0 f.0 j f.1 s.0 0 s.1 r.1 f.2 in (
              w.0,
              w.1 ++ e.0 ∷ [],
              w.2,
              path-append graph.edges w.1 (e.0 ∷ []) w.0 (b.state * shared_count file.shared + f.0) (r.0 * shared_count file.shared + j) w.3 (e.1, e.2, sym e.3, e.4),
              (let c : length (w.1 ++ e.0 ∷ []) ≡ length w.1 + 1 = length-append w.1 (e.0 ∷ []) in let d : length w.1 ≡ n = w.4 in omega arith),
            ));
      }

  module _ (some_token : 1 ≤ shared_count file.shared) where
    tok : ℕ → ℕ
    tok v = v % shared_count file.shared

    tok-of : (q i v : ℕ) → i < shared_count file.shared → v ≡ q * shared_count file.shared + i → tok v ≡ i
    unfolding tok
    tok-of q i v below eq = ap (λ m. m % shared_count file.shared) eq ∙ mod-mul-add q (shared_count file.shared) i below

    tok-below : (v : ℕ) → tok v < shared_count file.shared
    unfolding tok
    tok-below v = omega arith

    down : (k : ℕ) (e : Edge) → slice_get graph.edges k ≡ Some e → e.weight ≡ 0 → tok e.to < tok e.from
    down k e at none =
        let f = edge_from file graph is k e at in
        let a = at_state file graph is f.q f.s f.there in
        let falls : f.j < f.i = a.matrix.falls f.j f.i (f.entry ∙ ap (λ n. Some n) none) in
        let to : tok e.to ≡ f.j = tok-of f.r f.j e.to f.row f.to in
        let from : tok e.from ≡ f.i = tok-of f.q f.i e.from f.column f.from in omega arith

    -- a long walk is heavy
    pub heavy : (b : ℕ) → (u : ℕ) × (v : ℕ) × (ks : List ℕ) × IsStart graph u × IsPath graph.edges u ks v × (b < weights graph.edges ks)
    heavy b =
        let n : ℕ = b * shared_count file.shared + shared_count file.shared in
        let r = reaches (b * shared_count file.shared + shared_count file.shared) in
        let w = r.walk 0 (omega arith) in
        let p : length w.1 + tok (r.state * shared_count file.shared + 0) ≤ weights graph.edges w.1 * shared_count file.shared + tok w.0 =
        progress graph.edges (shared_count file.shared) tok tok-below down w.1 w.0 (r.state * shared_count file.shared + 0) w.3 in
        let l : length w.1 ≡ b * shared_count file.shared + shared_count file.shared = w.4 in
        let t : tok w.0 < shared_count file.shared = tok-below w.0 in (
          w.0,
          r.state * shared_count file.shared + 0,
          w.1,
          w.2,
          w.3,
          elim (cases_lt b (weights graph.edges w.1)) [
            | inl h ↦ h
            | inr h ↦ absurd (let m : weights graph.edges w.1 * shared_count file.shared ≤ b * shared_count file.shared = mul-le-mul_right (shared_count file.shared) h in let no : ⊥ = omega arith in no)
          ],
        )
