-- The closed walk chosen among tight edges is a critical cycle, and its nodes differ.
use Rattle.std.proofs.Common.{◌≡◌, ℕ, zero, suc, ◌+◌, ◌*◌, ◌-◌, ◌≤◌, ◌<◌, ◌⊎◌, ◌↔◌, List, [], ◌∷◌, ◌++◌, length, Option, Some, None, refl, sym, ap, subst, ◌∙◌, inl, inr, ⊎_elim, arith}
use Rattle.std.specs.Prelude.{slice_get, ℤ, pos, ◌+ℤ◌, ◌-ℤ◌}
use Rattle.std.proofs.lemmas.Int.{ints}
use Rattle.std.proofs.lemmas.Bool.{cases_lt}
use Rattle.std.proofs.lemmas.Option.{slice_get_within}
use Rattle.sd_base.proofs.ElementsKeepPlaces.{get-last, get-left}
use Rattle.automaton.specs.declared.graph.Edge.{Edge}
use Rattle.automaton.specs.declared.graph.TimedGraph.{TimedGraph}
use Rattle.automaton.specs.CriticalCycles.{IsPath, IsReachedNode, IsCritical, weights, weight_in}
use Rattle.scenario_rate.specs.declared.levels.Cell.{Cell}
use Rattle.automaton.specs.SoundGraphs.{IsSound, node_count}
use Rattle.scenario_rate.specs.Answers.{IsApart}
use Rattle.scenario_rate.specs.ChosenCycles.{IsTight, IsTightPath, IsChosen}
use Rattle.scenario_rate.specs.inside.Levels.{cell_at}
use Rattle.scenario_rate.specs.inside.Searches.{AreLevels, IsLast, potential_of, node_after, from_in, from_of}
use Rattle.scenario_rate.specs.inside.Choosing.{IsAmong, AreKnown, IsWalkAmong, HasCycle, IsChosenOf, IsEven, IsTightIn, AreTight}
use Rattle.scenario_rate.proofs.RowsScoreWalks.{over, only-reached, fit}
use Rattle.scenario_rate.proofs.ClosedWalksShorten.{cut, length-cut}

-- ---- edge by edge

get-pushed : (xs : List ℕ) (x i k : ℕ) → slice_get (xs ++ x ∷ []) i ≡ Some k → IsAmong xs k ⊎ (k ≡ x)
get-pushed [] x zero k at = inr (let e : x ≡ k = cc in sym e)
get-pushed [] x (suc i) k at = absurd (cc)
get-pushed (y ∷ xs) x zero k at = inl (0, at)
get-pushed (y ∷ xs) x (suc i) k at = elim (get-pushed xs x i k at) [ inl (j, is) ↦ inl (suc j, is) | inr same ↦ inr same ]

pub tight_more : (es : List Edge) (row : List (Option Cell)) (l w n : ℕ) (ts more : List ℕ) → AreTight es row l w n ts → IsTightIn es row l w n → more ≡ ts ++ n ∷ [] → AreTight es row l w (n + 1) more
tight_more es row l w n ts more so_far tight push = subst (AreTight es row l w (n + 1)) (sym push) (record {
  each = λ k among. (elim (get-pushed ts n among.0 k among.1) [ inl old ↦ so_far.each k old | inr same ↦ subst (IsTightIn es row l w) (sym same) tight ]);
  all = λ k below is. ⊎_elim
      (λ (old : k < n). let a = so_far.all k old is in (a.0, get-left ts (n ∷ []) a.0 k a.1))
      (λ (last : n ≤ k). let same : n ≡ k = omega arith in (length ts, get-last ts n ∙ ap Some same))
      (cases_lt k n);
})

pub tight_pass : (es : List Edge) (row : List (Option Cell)) (l w n : ℕ) (ts : List ℕ) → AreTight es row l w n ts → (IsTightIn es row l w n → ⊥) → AreTight es row l w (n + 1) ts
tight_pass es row l w n ts so_far not_tight = record {
  each = so_far.each;
  all = λ k below is. ⊎_elim
      (λ (old : k < n). so_far.all k old is)
      (λ (last : n ≤ k). absurd (let same : k ≡ n = omega arith in not_tight (subst (IsTightIn es row l w) same is)))
      (cases_lt k n);
}

pub tight_known : (es : List Edge) (row : List (Option Cell)) (l w n : ℕ) (ts : List ℕ) → AreTight es row l w n ts → AreKnown es ts
tight_known es row l w n ts tight i k at = let t = tight.each k (i, at) in slice_get_within es k t.0 t.1

-- ---- no node stands twice on a shortest closed walk

node-is : (es : List Edge) (ks : List ℕ) (v i a : ℕ) (e : Edge) → slice_get ks i ≡ Some a → slice_get es a ≡ Some e → node_after es ks v i ≡ e.from
node-is es ks v i a e at is = ap (from_of es v) at ∙ ap from_in is

pub chosen_apart : (es : List Edge) (ts cycle : List ℕ) → IsChosenOf es ts cycle → IsApart es cycle
chosen_apart es ts cycle chosen i j a b e f at_i at_j is_e is_f same = elim (cases_lt i j) [
  | inl less ↦ absurd (twice i j a b e f at_i at_j is_e is_f same less)
  | inr more ↦ elim (cases_lt j i) [
    | inl less ↦ absurd (twice j i b a f e at_j at_i is_f is_e (sym same) less)
    | inr eq ↦ (let h : i ≡ j = omega arith in h)
  ]
]
  where
    twice : (i j a b : ℕ) (e f : Edge) → slice_get cycle i ≡ Some a → slice_get cycle j ≡ Some b → slice_get es a ≡ Some e → slice_get es b ≡ Some f → e.from ≡ f.from → i < j → ⊥
    twice i j a b e f at_i at_j is_e is_f same order =
        let below : j < length cycle = slice_get_within cycle j b at_j in
        let nodes : node_after es cycle chosen.node i ≡ node_after es cycle chosen.node j = node-is es cycle chosen.node i a e at_i is_e ∙ same ∙ sym (node-is es cycle chosen.node j b f at_j is_f) in
        let size = length-cut cycle i j order (omega arith) in
        let shorter = chosen.fewest _ (let h : 1 ≤ i + (length cycle - j) = omega arith in subst (λ (n : ℕ). 1 ≤ n) (sym size) h) (cut es ts cycle chosen.node chosen.node i j chosen.closed order (omega arith) nodes) in
        omega (arith, size)

-- ---- the row of a search that has settled
module _ (graph : TimedGraph) (l w : ℕ) (rows : List (List (Option Cell))) (levels : AreLevels graph l w rows) (k : ℕ) (row : List (Option Cell)) (last : IsLast graph l w rows k row) (sound : IsSound graph)
    (ts : List ℕ) (tight : AreTight graph.edges row l w (length graph.edges) ts) where
  sums : (e : Edge) (ks : List ℕ) (x : ℕ) → slice_get graph.edges x ≡ Some e → weights graph.edges (x ∷ ks) * l ≡ e.weight * l + weights graph.edges ks * l
  sums e ks x is = let same : weights graph.edges (x ∷ ks) ≡ e.weight + weights graph.edges ks = ap (λ (o : Option Edge). weight_in o + weights graph.edges ks) is in plain l e.weight (weights graph.edges ks) (weights graph.edges (x ∷ ks)) same
    where
      plain : (l a b c : ℕ) → c ≡ a + b → c * l ≡ a * l + b * l
      plain l a b c h = omega (arith, ap (λ (n : ℕ). n * l) h)

  longer : (n : ℕ) → w * suc n ≡ w + w * n
  longer n = omega arith

  -- scores bound weights along a walk
  along_scores : (ks : List ℕ) (u v : ℕ) (c : Cell) → cell_at row u ≡ Some c → IsPath graph.edges u ks v → (d : Cell) × (cell_at row v ≡ Some d) × (c.score + weights graph.edges ks * l ≤ d.score + w * length ks)
  along_scores [] u v c at path = (c, ap (cell_at row) (sym path) ∙ at, omega arith)
  along_scores (x ∷ ks) u v c at (e, is, from, rest) =
      let o = over graph l w rows levels k row last x e c (slice_get_within graph.edges x e is) is (ap (cell_at row) (sym from) ∙ at) in
      let r = along_scores ks e.to v o.0 o.1 rest in
      (r.0, r.1, (let h : c.score + weights graph.edges (x ∷ ks) * l ≤ r.0.score + w * suc (length ks) = omega (arith, sums e ks x is, longer (length ks), o.2, r.2) in h))

  -- a walk that is as heavy as they allow is tight
  tight_along : (ks : List ℕ) (u v : ℕ) (c d : Cell) → cell_at row u ≡ Some c → cell_at row v ≡ Some d → IsPath graph.edges u ks v → d.score + w * length ks ≤ c.score + weights graph.edges ks * l → IsWalkAmong graph.edges ts u ks v
  tight_along [] u v c d at to path heavy = path
  tight_along (x ∷ ks) u v c d at to (e, is, from, rest) heavy =
      let o = over graph l w rows levels k row last x e c (slice_get_within graph.edges x e is) is (ap (cell_at row) (sym from) ∙ at) in
      let r = along_scores ks e.to v o.0 o.1 rest in
      let same : r.0 ≡ d = (let h : Some r.0 ≡ Some d = sym r.1 ∙ to in cc) in
      let up : o.0.score + weights graph.edges ks * l ≤ d.score + w * length ks = subst (λ (z : Cell). o.0.score + weights graph.edges ks * l ≤ z.score + w * length ks) same r.2 in
      let even : c.score + e.weight * l ≡ o.0.score + w = omega (arith, sums e ks x is, longer (length ks), o.2, heavy) in
      let here : IsTightIn graph.edges row l w x = (e, is, subst (λ (z : Option Cell). IsEven l w e z (cell_at row e.to)) (sym (ap (cell_at row) (sym from) ∙ at)) (subst (λ (z : Option Cell). IsEven l w e (Some c) z) (sym o.1) even)) in
      (e, is, from, tight.all x (slice_get_within graph.edges x e is) here, tight_along ks e.to v o.0 d o.1 to rest (omega (arith, sums e ks x is, longer (length ks), o.2, heavy)))

  reached_cell : (v : ℕ) (c : Cell) → cell_at row v ≡ Some c → IsReachedNode graph v
  reached_cell v c at = only-reached graph l w rows levels k row last v (pos c.score -ℤ pos (k * w)) (ap (potential_of (k * w)) at)

  -- a reached node has a score
  some_cell : (v : ℕ) → IsReachedNode graph v → (c : Cell) × (cell_at row v ≡ Some c)
  some_cell v reached = of_potential (cell_at row v) refl
    where
      of_potential : (o : Option Cell) → cell_at row v ≡ o → (c : Cell) × (cell_at row v ≡ Some c)
      of_potential (Some c) at = (c, at)
      of_potential None at = absurd (let t = (fit graph l w rows levels k row last).there v reached in let h : None ≡ Some t.0 = sym (ap (potential_of (k * w)) at) ∙ t.1 in cc)

  -- a critical cycle is one of tight edges
  pub has_cycle : (cycle : List ℕ) → IsCritical graph l w cycle → HasCycle graph.edges ts (node_count graph)
  has_cycle cycle critical =
      let c = some_cell critical.node critical.reached in
      let rate : weights graph.edges cycle * l ≡ w * length cycle = critical.rate in record {
        node = critical.node;
        inside = inside_of cycle critical.node critical.node critical.some critical.closed;
        walk = cycle;
        some = critical.some;
        closed = tight_along cycle critical.node critical.node c.0 c.0 c.1 c.1 critical.closed (omega arith);
      }
    where
      inside_of : (ks : List ℕ) (u v : ℕ) → 1 ≤ length ks → IsPath graph.edges u ks v → u < node_count graph
      inside_of [] u v some path = absurd (omega arith)
      inside_of (x ∷ ks) u v some (e, is, from, rest) = subst (λ (n : ℕ). n < node_count graph) (sym from) (sound.edges.from x e is)

  -- where a tight edge leads
  even_end : (x : ℕ) (e : Edge) (c : Cell) → slice_get graph.edges x ≡ Some e → cell_at row e.from ≡ Some c → IsTightIn graph.edges row l w x → (d : Cell) × (cell_at row e.to ≡ Some d) × (c.score + e.weight * l ≡ d.score + w)
  even_end x e c is at (f, is_f, even) =
      let same : f ≡ e = (let h : Some f ≡ Some e = sym is_f ∙ is in cc) in
      let mine : IsEven l w e (Some c) (cell_at row e.to) = subst (λ (z : Option Cell). IsEven l w e z (cell_at row e.to)) at (subst (λ (g : Edge). IsEven l w g (cell_at row g.from) (cell_at row g.to)) same even) in
      next (cell_at row e.to) refl mine
    where
      next : (o : Option Cell) → cell_at row e.to ≡ o → IsEven l w e (Some c) o → (d : Cell) × (cell_at row e.to ≡ Some d) × (c.score + e.weight * l ≡ d.score + w)
      next None to even = absurd even
      next (Some d) to even = (d, to, even)

  -- the weights of a walk of tight edges
  walk_sum : (ks : List ℕ) (u v : ℕ) (c : Cell) → cell_at row u ≡ Some c → IsWalkAmong graph.edges ts u ks v → (d : Cell) × (cell_at row v ≡ Some d) × (c.score + weights graph.edges ks * l ≡ d.score + w * length ks) × IsPath graph.edges u ks v
  walk_sum [] u v c at walk = (c, ap (cell_at row) (sym walk) ∙ at, omega arith, walk)
  walk_sum (x ∷ ks) u v c at (e, is, from, among, rest) =
      let o = even_end x e c is (ap (cell_at row) (sym from) ∙ at) (tight.each x among) in
      let r = walk_sum ks e.to v o.0 o.1 rest in
      (r.0, r.1, (let h : c.score + weights graph.edges (x ∷ ks) * l ≡ r.0.score + w * suc (length ks) = omega (arith, sums e ks x is, longer (length ks), r.2, o.2) in h), (e, is, from, r.3))

  -- the chosen walk is a critical cycle
  pub chosen_critical : (cycle : List ℕ) → IsChosenOf graph.edges ts cycle → IsCritical graph l w cycle
  chosen_critical cycle chosen =
      let c = first_cell cycle chosen.node chosen.node chosen.some chosen.closed in
      let s = walk_sum cycle chosen.node chosen.node c.0 c.1 chosen.closed in
      let same : s.0 ≡ c.0 = (let h : Some s.0 ≡ Some c.0 = sym s.1 ∙ c.1 in cc) in
      let sum : c.0.score + weights graph.edges cycle * l ≡ c.0.score + w * length cycle = subst (λ (d : Cell). c.0.score + weights graph.edges cycle * l ≡ d.score + w * length cycle) same s.2 in record {
        node = chosen.node;
        reached = reached_cell chosen.node c.0 c.1;
        closed = s.3;
        some = chosen.some;
        rate = omega arith;
      }
    where
      cell_of_even : (l w : ℕ) (e : Edge) (o d : Option Cell) → IsEven l w e o d → (c : Cell) × (o ≡ Some c)
      cell_of_even l w e None d even = absurd even
      cell_of_even l w e (Some c) d even = (c, refl)

      first_cell : (ks : List ℕ) (u v : ℕ) → 1 ≤ length ks → IsWalkAmong graph.edges ts u ks v → (c : Cell) × (cell_at row u ≡ Some c)
      first_cell [] u v some walk = absurd (omega arith)
      first_cell (x ∷ ks) u v some (e, is, from, among, rest) =
          let t = tight.each x among in
          let same : t.0 ≡ e = (let h : Some t.0 ≡ Some e = sym t.1 ∙ is in cc) in
          let c = cell_of_even l w t.0 (cell_at row t.0.from) (cell_at row t.0.to) t.2 in
          (c.0, ap (cell_at row) (from ∙ ap (λ (f : Edge). f.from) (sym same)) ∙ c.1)

  -- ---- the same in potentials
  module _ (p : ℕ → Option ℤ) (same : (v : ℕ) → p v ≡ potential_of (k * w) (cell_at row v)) where
    plain : (s a t w b : ℕ) → ((pos s -ℤ pos b) +ℤ pos a ≡ (pos t -ℤ pos b) +ℤ pos w) ↔ (s + a ≡ t + w)
    plain s a t w b = ((λ h. omega (arith, ints)), (λ h. omega (arith, ints)))

    to_tight : (x : ℕ) → IsTightIn graph.edges row l w x → IsTight graph l w p x
    to_tight x (e, is, even) = go (cell_at row e.from) (cell_at row e.to) refl refl even
      where
        go : (o d : Option Cell) → cell_at row e.from ≡ o → cell_at row e.to ≡ d → IsEven l w e o d → IsTight graph l w p x
        go None d from to even = absurd even
        go (Some c) None from to even = absurd even
        go (Some c) (Some d) from to even = (e, pos c.score -ℤ pos (k * w), pos d.score -ℤ pos (k * w), is, same e.from ∙ ap (potential_of (k * w)) from, same e.to ∙ ap (potential_of (k * w)) to, (plain c.score (e.weight * l) d.score w (k * w)).1 even)

    from_tight : (x : ℕ) → IsTight graph l w p x → IsTightIn graph.edges row l w x
    from_tight x (e, a, b, is, pa, pb, sum) = (e, is, go (cell_at row e.from) (cell_at row e.to) (sym (same e.from) ∙ pa) (sym (same e.to) ∙ pb))
      where
        go : (o d : Option Cell) → potential_of (k * w) o ≡ Some a → potential_of (k * w) d ≡ Some b → IsEven l w e o d
        go None d from to = absurd (cc)
        go (Some c) None from to = absurd (cc)
        go (Some c) (Some d) from to =
            let x_is : pos c.score -ℤ pos (k * w) ≡ a = cc in
            let y_is : pos d.score -ℤ pos (k * w) ≡ b = cc in
            (plain c.score (e.weight * l) d.score w (k * w)).0 (ap (λ (z : ℤ). z +ℤ pos (e.weight * l)) x_is ∙ sum ∙ sym (ap (λ (z : ℤ). z +ℤ pos w) y_is))

    to_path : (ks : List ℕ) (u v : ℕ) → IsWalkAmong graph.edges ts u ks v → IsTightPath graph l w p u ks v
    to_path [] u v walk = walk
    to_path (x ∷ ks) u v (e, is, from, among, rest) = (e, is, from, to_tight x (tight.each x among), to_path ks e.to v rest)

    from_path : (ks : List ℕ) (u v : ℕ) → IsTightPath graph l w p u ks v → IsWalkAmong graph.edges ts u ks v
    from_path [] u v walk = walk
    from_path (x ∷ ks) u v (e, is, from, t, rest) = (e, is, from, tight.all x (slice_get_within graph.edges x e is) (from_tight x t), from_path ks e.to v rest)

    pub is_chosen : (cycle : List ℕ) → IsChosenOf graph.edges ts cycle → IsChosen graph l w p cycle
    is_chosen cycle chosen = record {
      node = chosen.node;
      closed = to_path cycle chosen.node chosen.node chosen.closed;
      some = chosen.some;
      least_node = λ v ks some path. chosen.least_node v ks some (from_path ks v v path);
      fewest = λ ks some path. chosen.fewest ks some (from_path ks chosen.node chosen.node path);
      least = λ ks long path. chosen.least ks long (from_path ks chosen.node chosen.node path);
    }
