-- The walk behind a score is found by going back level by level.
use Rattle.std.proofs.Common.{◌≡◌, ℕ, zero, suc, ◌+◌, ◌*◌, ◌-◌, ◌<◌, List, [], ◌∷◌, ◌++◌, length, Option, Some, None, refl, sym, ap, subst, ◌∙◌, arith}
use Rattle.std.specs.Prelude.{slice_get, slice_index_or}
use Rattle.std.proofs.lemmas.Option.{slice_get-get_or, get_or_from_slice_get, slice_get_within}
use Rattle.automaton.specs.declared.graph.Edge.{Edge}
use Rattle.automaton.specs.declared.graph.TimedGraph.{TimedGraph}
use Rattle.scenario_rate.specs.declared.levels.Cell.{Cell}
use Rattle.automaton.specs.SoundGraphs.{node_count}
use Rattle.scenario_rate.specs.inside.Levels.{cell_at, IsRaised, edge_in}
use Rattle.scenario_rate.specs.inside.Searches.{AreLevels, IsScored, IsScoredAt, HasCell, cell_of}
use Rattle.scenario_rate.proofs.CellsMakeRows.{cell-inside}
use Rattle.scenario_rate.proofs.RowsScoreWalks.{scored-stayed, scored-came, before}

module _ (graph : TimedGraph) (l w : ℕ) (rows : List (List (Option Cell))) (levels : AreLevels graph l w rows) where
  row-there : (k : ℕ) → k < length rows → slice_get rows k ≡ Some (slice_index_or rows k [])
  row-there k h = slice_get-get_or rows k [] h

  pub walk-zero : (k v : ℕ) (walk : List ℕ) → k ≡ 0 → walk ≡ [] → HasCell rows k v → IsScoredAt graph l w rows k walk v
  walk-zero k v walk zero_k none (below, wide, (c, at)) =
      subst (λ (z : List ℕ). IsScoredAt graph l w rows k z v) (sym none)
      (let f = levels.first (slice_index_or rows k []) (ap (λ n. slice_get rows n) (sym zero_k) ∙ row-there k below) in
      (c, at, (v, 0, f.start v c at, refl, (let g : 0 + 0 ≡ k = omega arith in g), (let z : c.score ≡ 0 = f.zero_score v c at in omega arith))))

  -- the level below
  record Below (j v : ℕ) : Type 0 where
    raised : IsRaised graph.edges (length graph.edges) l w (cell_at (slice_index_or rows j [])) (cell_at (slice_index_or rows (suc j) []))
    wide : length (slice_index_or rows j []) ≡ node_count graph
    inside : j < length rows

  step-down : (j v : ℕ) → suc j < length rows → Below j v
  step-down j v below = let b = before graph l w rows levels j (slice_index_or rows (suc j) []) (row-there (suc j) below) in
      let is : slice_index_or rows j [] ≡ b.0 = get_or_from_slice_get rows j b.0 [] b.1 in
      record {
        raised = subst (λ (z : List (Option Cell)). IsRaised graph.edges (length graph.edges) l w (cell_at z) (cell_at (slice_index_or rows (suc j) []))) (sym is) b.2;
        wide = ap (λ (z : List (Option Cell)). length z) is ∙ levels.wide j b.0 b.1;
        inside = omega arith;
      }

  no-edge-in : (o : Option Cell) (c : Cell) → o ≡ Some c → edge_in o ≡ c.edge
  no-edge-in o c h = ap edge_in h

  pub has-stayed : (j v : ℕ) → HasCell rows (suc j) v → edge_in (cell_of rows (suc j) v) ≡ None → HasCell rows j v
  has-stayed j v (below, wide, (c, at)) none = let d = step-down j v below in
      let s = d.raised.stayed v c at (sym (no-edge-in (cell_of rows (suc j) v) c at) ∙ none) in
      (d.inside, cell-inside (slice_index_or rows j []) v s.0 s.1, (s.0, s.1))

  pub walk-stayed : (j v : ℕ) (walk : List ℕ) → HasCell rows (suc j) v → edge_in (cell_of rows (suc j) v) ≡ None → IsScoredAt graph l w rows j walk v
      → IsScoredAt graph l w rows (suc j) walk v
  walk-stayed j v walk (below, wide, (c, at)) none (b, b_at, scored) = let d = step-down j v below in
      let s = d.raised.stayed v c at (sym (no-edge-in (cell_of rows (suc j) v) c at) ∙ none) in
      let same : b ≡ s.0 = (let e : ◌≡◌ {A = Option Cell} (Some b) (Some s.0) = sym b_at ∙ s.1 in (cc)) in (
        c,
        at,
        subst (λ n. IsScored graph l w n walk v c.score) (let e : j + 1 ≡ suc j = omega arith in e)
            (scored-stayed graph l w j v walk b.score c.score scored (s.2 ∙ ap (λ (x : Cell). x.score + w) (sym same))),
      )

  -- the edge that raised a node
  pub record Came (j v number : ℕ) (from : ℕ) : Type 0 where
    pub inside : number < length graph.edges
    pub cell : HasCell rows j from
    pub walk : (walk walk' : List ℕ) → walk' ≡ walk ++ number ∷ [] → IsScoredAt graph l w rows j walk from → IsScoredAt graph l w rows (suc j) walk' v

  pub came : (j v number : ℕ) → HasCell rows (suc j) v → edge_in (cell_of rows (suc j) v) ≡ Some number
      → Came j v number (slice_index_or graph.edges number (record { from = 0; to = 0; weight = 0 })).from
  came j v number (below, wide, (c, at)) some = let d = step-down j v below in
      let s = d.raised.came v c number at (sym (no-edge-in (cell_of rows (suc j) v) c at) ∙ some) in
      let is : slice_index_or graph.edges number (record { from = 0; to = 0; weight = 0 }) ≡ s.0 = get_or_from_slice_get graph.edges number s.0 (record { from = 0; to = 0; weight = 0 }) s.2 in
      subst (λ (e : Edge). Came j v number e.from) (sym is) (record {
        inside = slice_get_within graph.edges number s.0 s.2;
        cell = (d.inside, cell-inside (slice_index_or rows j []) s.0.from s.1 s.4, (s.1, s.4));
        walk = λ walk walk' is (b, b_at, scored). subst (λ (z : List ℕ). IsScoredAt graph l w rows (suc j) z v) (sym is)
            (let same : b ≡ s.1 = (let e : ◌≡◌ {A = Option Cell} (Some b) (Some s.1) = sym b_at ∙ s.4 in (cc)) in (
              c,
              at,
              subst (λ n. IsScored graph l w n (walk ++ number ∷ []) v c.score) (let e : j + 1 ≡ suc j = omega arith in e)
                  (scored-came graph l w j v walk b.score c.score number s.0 scored s.2 s.3 (s.5 ∙ ap (λ (x : Cell). x.score + s.0.weight * l) (sym same))),
            ));
      })

  pub has-stayed-at : (k v : ℕ) → (k ≡ 0 → ⊥) → HasCell rows k v → edge_in (cell_of rows k v) ≡ None → HasCell rows (k - 1) v
  has-stayed-at zero v some has none = absurd (some refl)
  has-stayed-at (suc j) v some has none = subst (λ n. HasCell rows n v) (let e : j ≡ suc j - 1 = omega arith in e) (has-stayed j v has none)

  pub walk-stayed-at : (k v : ℕ) (walk : List ℕ) → (k ≡ 0 → ⊥) → HasCell rows k v → edge_in (cell_of rows k v) ≡ None → IsScoredAt graph l w rows (k - 1) walk v
      → IsScoredAt graph l w rows k walk v
  walk-stayed-at zero v walk some has none is = absurd (some refl)
  walk-stayed-at (suc j) v walk some has none is = walk-stayed j v walk has none (subst (λ n. IsScoredAt graph l w rows n walk v) (let e : suc j - 1 ≡ j = omega arith in e) is)

  -- the same of the list of edges as code has it
  pub record CameAt (k v number : ℕ) (es : List Edge) : Type 0 where
    pub inside : number < length es
    pub cell : HasCell rows (k - 1) (slice_index_or es number (record { from = 0; to = 0; weight = 0 })).from
    pub walk : (walk walk' : List ℕ) → walk' ≡ walk ++ number ∷ [] → IsScoredAt graph l w rows (k - 1) walk (slice_index_or es number (record { from = 0; to = 0; weight = 0 })).from
        → IsScoredAt graph l w rows k walk' v

  pub came-at : (k v number : ℕ) (es : List Edge) → es ≡ graph.edges → (k ≡ 0 → ⊥) → HasCell rows k v → edge_in (cell_of rows k v) ≡ Some number → CameAt k v number es
  came-at zero v number es es_is some has edge = absurd (some refl)
  came-at (suc j) v number es es_is some has edge = subst (λ (z : List Edge). CameAt (suc j) v number z) (sym es_is)
      (let k = came j v number has edge in let down : j ≡ suc j - 1 = omega arith in record {
        inside = k.inside;
        cell = subst (λ n. HasCell rows n (slice_index_or graph.edges number (record { from = 0; to = 0; weight = 0 })).from) down k.cell;
        walk = λ walk walk' is scored. k.walk walk walk' is (subst (λ n. IsScoredAt graph l w rows n walk (slice_index_or graph.edges number (record { from = 0; to = 0; weight = 0 })).from) (sym down) scored);
      })
