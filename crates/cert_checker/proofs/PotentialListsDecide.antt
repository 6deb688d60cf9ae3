-- A list of potentials is right exactly where a walk over all nodes ends at its end.
use Rattle.std.proofs.Common.{◌≡◌, ℕ, zero, suc, ◌+◌, ◌-◌, ◌*◌, ◌≤◌, ◌<◌, ◌↔◌, Bool, true, false, cond, true≢false, eq-eqb, Some, List, [], ◌∷◌, length, refl, sym, subst, ◌∙◌, ⊎_elim, arith}
use Rattle.std.specs.Prelude.{slice_index_or, ℤ, pos, ◌+ℤ◌, ◌≤ℤ◌, ◌==◌, nat_eq, IsTrue}
use Rattle.std.specs.List.{find}
use Rattle.std.specs.Option.{option_map}
use Rattle.std.proofs.lemmas.Bool.{cases_lt, eqb-true, eqb-false}
use Rattle.std.proofs.lemmas.List.{get_or_past}
use Rattle.std.proofs.lemmas.Option.{same_Some}
use Rattle.automaton.specs.declared.graph.TimedGraph.{TimedGraph}
use Rattle.automaton.specs.CriticalCycles.{IsReachedNode, IsStart, Fit}
use Rattle.cert_checker.specs.ListedNodes.{IsNode, node_at, ListsNodes, potential_of, FitsAt}
use Rattle.cert_checker.specs.inside.Listed.{UpTo, IsNextPotential}
use Rattle.cert_checker.specs.inside.Marks.{AreReached}

-- what is found is listed
pub record Listed (graph : TimedGraph) (ps : List (ℕ × ℕ × ℤ)) (v : ℕ) (y : ℤ) : Type 0 where
  pub place : ℕ
  pub below : place < length ps
  pub node : node_at graph ps place ≡ v
  pub value : (slice_index_or ps place (0, 0, pos 0)).2 ≡ y

pub listed : (graph : TimedGraph) (ps : List (ℕ × ℕ × ℤ)) (v : ℕ) (y : ℤ) → potential_of graph ps v ≡ Some y → Listed graph ps v y
listed graph [] v y is = absurd (cc)
listed graph (p ∷ ps) v y is = go (listed graph ps v y) ((p.0 * graph.tokens + p.1) == v) refl is
  where
    go : (potential_of graph ps v ≡ Some y → Listed graph ps v y) → (b : Bool) → ((p.0 * graph.tokens + p.1) == v) ≡ b
        → option_map (λ (x : ℕ × ℕ × ℤ). x.2) (cond b (Some p) (find (λ (x : ℕ × ℕ × ℤ). (x.0 * graph.tokens + x.1) == v) ps)) ≡ Some y → Listed graph (p ∷ ps) v y
    go later true test h = record { place = 0; below = omega arith; node = eqb-true (p.0 * graph.tokens + p.1) v test; value = same_Some p.2 y h }
    go later false test h = let l = later h in record { place = suc l.place; below = omega (arith, l.below); node = l.node; value = l.value }

-- what is listed is found
pub found : (graph : TimedGraph) (ps : List (ℕ × ℕ × ℤ)) (v i : ℕ) → i < length ps → node_at graph ps i ≡ v → (x : ℤ) × (potential_of graph ps v ≡ Some x)
found graph [] v i below node = absurd (omega arith)
found graph (p ∷ ps) v i below node = go ((p.0 * graph.tokens + p.1) == v) refl (λ off. later i below node off (λ j less at. found graph ps v j less at))
  where
    go : (b : Bool) → ((p.0 * graph.tokens + p.1) == v) ≡ b → (((p.0 * graph.tokens + p.1) == v) ≡ false → (x : ℤ) × (potential_of graph ps v ≡ Some x))
        → (x : ℤ) × (option_map (λ (q : ℕ × ℕ × ℤ). q.2) (cond b (Some p) (find (λ (q : ℕ × ℕ × ℤ). (q.0 * graph.tokens + q.1) == v) ps)) ≡ Some x)
    go true test rest = (p.2, refl)
    go false test rest = rest test

    later : (i : ℕ) → i < suc (length ps) → node_at graph (p ∷ ps) i ≡ v → ((p.0 * graph.tokens + p.1) == v) ≡ false → ((j : ℕ) → j < length ps → node_at graph ps j ≡ v → (x : ℤ) × (potential_of graph ps v ≡ Some x))
        → (x : ℤ) × (potential_of graph ps v ≡ Some x)
    later zero below node test rest = absurd (eqb-false (p.0 * graph.tokens + p.1) v test node)
    later (suc j) below node test rest = rest j (omega arith) node

-- potentials that are listed and fit are potentials of the graph
pub fit : (graph : TimedGraph) (rate : ℕ × ℕ) (ps : List (ℕ × ℕ × ℤ)) → ListsNodes graph ps → ((i : ℕ) → i < length ps → FitsAt graph rate ps i) → Fit graph rate.0 rate.1 (potential_of graph ps)
fit graph rate ps lists fits = record {
  there = λ v reached. (let one = lists.all v reached in found graph ps v one.0 one.1 one.2);
  starts = λ v x start at.
      (let l = listed graph ps v x at in
      subst (λ (y : ℤ). pos 0 ≤ℤ y) l.value ((fits l.place l.below).start (subst (IsStart graph) (sym l.node) start)));
  steps = λ k e x y reached is before after.
      (let l = listed graph ps e.to y after in
      subst (λ (z : ℤ). (x +ℤ pos (e.weight * rate.0)) ≤ℤ (z +ℤ pos rate.1)) l.value ((fits l.place l.below).steps k e x is (sym l.node) before));
}

-- ---- in order

module _ (graph : TimedGraph) (ps : List (ℕ × ℕ × ℤ)) where
  -- nodes that rise from one to the next rise from each to each later one
  rising : ((i : ℕ) → i + 1 < length ps → node_at graph ps i < node_at graph ps (i + 1)) → (i d : ℕ) → i + suc d < length ps → node_at graph ps i < node_at graph ps (i + suc d)
  rising rise i zero below = let e : i + suc zero ≡ i + 1 = omega arith in rw e (rise i (omega arith))
  rising rise i (suc d) below =
      let one = rising rise i d (omega arith) in
      let next = rise (i + suc d) (omega arith) in
      let e : i + suc (suc d) ≡ i + suc d + 1 = omega arith in
      rw e (omega arith)

  rises : ((i : ℕ) → i + 1 < length ps → node_at graph ps i < node_at graph ps (i + 1)) → (i j : ℕ) → i < j → j < length ps → node_at graph ps i < node_at graph ps j
  rises rise i j less below =
      let e : i + suc (j - suc i) ≡ j = omega arith in
      subst (λ (x : ℕ). node_at graph ps i < node_at graph ps x) e (rising rise i (j - suc i) (omega arith))

  -- one that is has the next place
  pub take-next : (v k : ℕ) → UpTo graph ps v k → IsReachedNode graph v → IsNextPotential graph ps v k → UpTo graph ps (v + 1) (k + 1)
  take-next v k so_far on next = record {
    within = omega (arith, next.below);
    known = λ i below. ⊎_elim (λ (early : i < k). so_far.known i early)
        (λ (last : k ≤ i). subst (λ (j : ℕ). IsNode graph ((slice_index_or ps j (0, 0, pos 0)).0, (slice_index_or ps j (0, 0, pos 0)).1)) (let e : k ≡ i = omega arith in e) next.known) (cases_lt i k);
    reached = λ i below. ⊎_elim (λ (early : i < k). so_far.reached i early)
        (λ (last : k ≤ i). subst (λ (j : ℕ). IsReachedNode graph (node_at graph ps j)) (let e : k ≡ i = omega arith in e) (subst (IsReachedNode graph) (sym next.node) on)) (cases_lt i k);
    below = λ i below. ⊎_elim (λ (early : i < k). omega (arith, so_far.below i early))
        (λ (last : k ≤ i). let e : i ≡ k = omega arith in rw e (omega arith)) (cases_lt i k);
    rise = λ i below. ⊎_elim (λ (early : i + 1 < k). so_far.rise i early)
        (λ (last : k ≤ i + 1). let e : i + 1 ≡ k = omega arith in rw (e, next.node) (so_far.below i (omega arith))) (cases_lt (i + 1) k);
    all = λ u below r. ⊎_elim
        (λ (early : u < v). let one = so_far.all u early r in (one.0, omega (arith, one.1), one.2))
        (λ (last : v ≤ u). (k, omega arith, next.node ∙ (let e : v ≡ u = omega arith in e)))
        (cases_lt u v);
  }

  -- where a reachable node doesn't have the next place, the list isn't right
  pub miss : (v k : ℕ) → UpTo graph ps v k → IsReachedNode graph v → ListsNodes graph ps → IsNextPotential graph ps v k
  miss v k so_far on lists =
      let one = lists.all v on in
      let late : k ≤ one.0 = ⊎_elim (λ (early : one.0 < k). absurd (let less = so_far.below one.0 early in omega (arith, one.2))) (λ (h : k ≤ one.0). h) (cases_lt one.0 k) in
      let less : k < length ps = omega (arith, one.1) in
      ⊎_elim
      (λ (before : k < one.0).
      absurd (let small : node_at graph ps k < node_at graph ps one.0 = rises lists.rise k one.0 before one.1 in
      let seen = so_far.all (node_at graph ps k) (omega (arith, one.2)) (lists.reached k less) in
      let rise : node_at graph ps seen.0 < node_at graph ps k = rises lists.rise seen.0 k seen.1 less in
      omega (arith, seen.2)))
      (λ (h : one.0 ≤ k). let e : one.0 ≡ k = omega arith in record { below = less; known = lists.known k less; node = subst (λ (j : ℕ). node_at graph ps j ≡ v) e one.2 })
      (cases_lt k one.0)

  -- all nodes are passed: the list is right exactly where it ends
  pub at-end : (n k : ℕ) → UpTo graph ps n k → ((v : ℕ) → IsReachedNode graph v → v < n) → (k ≡ length ps) ↔ ListsNodes graph ps
  at-end n k so_far inside = (to, from)
    where
      to : k ≡ length ps → ListsNodes graph ps
      to e = record {
        known = λ i less. so_far.known i (omega arith);
        reached = λ i less. so_far.reached i (omega arith);
        rise = λ i less. so_far.rise i (omega arith);
        all = λ v r. (let one = so_far.all v (inside v r) r in (one.0, omega (arith, one.1), one.2));
      }

      from : ListsNodes graph ps → k ≡ length ps
      from lists = ⊎_elim
          (λ (less : k < length ps). absurd (
          let r = lists.reached k less in
          let seen = so_far.all (node_at graph ps k) (inside (node_at graph ps k) r) r in
          let rise : node_at graph ps seen.0 < node_at graph ps k = rises lists.rise seen.0 k seen.1 less in
          omega (arith, seen.2)))
          (λ (h : length ps ≤ k). omega (arith, so_far.within))
          (cases_lt k (length ps))

-- reachable nodes are marked, so they are nodes
pub reached-inside : (graph : TimedGraph) (marks : List Bool) → AreReached graph marks → (v : ℕ) → IsReachedNode graph v → v < length marks
reached-inside graph marks is v r = ⊎_elim (λ (h : v < length marks). h)
    (λ (past : length marks ≤ v). absurd (true≢false (sym ((is.exact v).1 r) ∙ get_or_past marks v false past)))
    (cases_lt v (length marks))

-- what the end of the walk over all nodes decides
pub end-decides : (graph : TimedGraph) (ps : List (ℕ × ℕ × ℤ)) (marks : List Bool) (n k : ℕ) → AreReached graph marks → length marks ≤ n → UpTo graph ps n k → IsTrue (nat_eq k (length ps)) ↔ ListsNodes graph ps
end-decides graph ps marks n k reached past so_far =
    let both = at-end graph ps n k so_far (λ v r. let below = reached-inside graph marks reached v r in omega arith) in
    ((λ on. both.0 (eqb-true k (length ps) on)), (λ lists. eq-eqb k (length ps) (both.1 lists)))
