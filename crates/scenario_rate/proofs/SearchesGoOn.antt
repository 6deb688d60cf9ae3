-- A search goes on by one more level, or ends where the row has settled.
use Rattle.std.proofs.Common.{◌≡◌, ℕ, ◌+◌, ◌-◌, ◌*◌, ◌≤◌, ◌<◌, ◌⊎◌, List, [], ◌∷◌, ◌++◌, length, Option, Some, refl, sym, ap, subst, ◌∙◌, inl, inr, arith, length-append}
use Rattle.std.proofs.Math.Nat.{mul-le-mul_right}
use Rattle.std.specs.Prelude.{slice_get, slice_index_or}
use Rattle.std.proofs.lemmas.Option.{slice_get-get_or, get_or_from_slice_get, slice_get_within}
use Rattle.sd_base.proofs.ElementsKeepPlaces.{get-last, get-pushed}
use Rattle.automaton.specs.declared.graph.Edge.{Edge}
use Rattle.automaton.specs.declared.graph.TimedGraph.{TimedGraph}
use Rattle.scenario_rate.specs.declared.levels.Cell.{Cell}
use Rattle.automaton.specs.SoundGraphs.{IsSound, node_count}
use Rattle.scenario_rate.specs.inside.Levels.{cell_at, IsFirst, IsRaised, AreHonoured, AreSmall, AreSettled}
use Rattle.scenario_rate.specs.inside.Searches.{AreLevels, IsLast, IsRaisedAt, IsLastSmall}
use Rattle.scenario_rate.proofs.RaisedRowsStaySmall.{raised-small, raised-honoured}

-- a search that goes on from level `first` has made the levels up to this one, and an edge raised the node at each that it made
pub record IsGoingOn (graph : TimedGraph) (l w : ℕ) (rows : List (List (Option Cell))) (first level v : ℕ) : Type 0 where
  pub levels : AreLevels graph l w rows
  pub count : length rows ≡ level + 1
  pub small : AreSmall (level * 102400000000000000) (cell_at (slice_index_or rows level []))
  pub wide : length (slice_index_or rows level []) ≡ node_count graph
  pub top : (level ≡ first) ⊎ ((v < node_count graph) × IsRaisedAt rows level v)

levels-more : (graph : TimedGraph) (l w : ℕ) (rows : List (List (Option Cell))) (level : ℕ) (row next : List (Option Cell))
    → AreLevels graph l w rows → length rows ≡ level + 1 → slice_get rows level ≡ Some row
    → IsRaised graph.edges (length graph.edges) l w (cell_at row) (cell_at next) → length next ≡ node_count graph → AreLevels graph l w (rows ++ next ∷ [])
levels-more graph l w rows level row next levels count at raised wide = record {
  first = λ x h. elim (get-pushed rows next x 0 h) [
    | inl a ↦ levels.first x a
    | inr b ↦ absurd (let e : 0 ≡ length rows = b.0 in let no : ⊥ = omega arith in no)
  ];
  more = λ k x y h g. elim (get-pushed rows next y (k + 1) g) [
    | inl a ↦ elim (get-pushed rows next x k h) [
      | inl b ↦ levels.more k x y b a
      | inr c ↦ absurd (let i : k + 1 < length rows = slice_get_within rows (k + 1) y a in let e : k ≡ length rows = c.0 in let no : ⊥ = omega arith in no)
    ]
    | inr a ↦ elim (get-pushed rows next x k h) [
      | inl b ↦ (let e : k + 1 ≡ length rows = a.0 in
          let same : k ≡ level = omega arith in
          let eq : row ≡ x = (let s : ◌≡◌ {A = Option (List (Option Cell))} (Some row) (Some x) = sym at ∙ ap (λ n. slice_get rows n) (sym same) ∙ b in (cc)) in
          subst (λ (z : List (Option Cell)). IsRaised graph.edges (length graph.edges) l w (cell_at x) (cell_at z)) (sym a.1)
          (subst (λ (z : List (Option Cell)). IsRaised graph.edges (length graph.edges) l w (cell_at z) (cell_at next)) eq raised))
      | inr c ↦ absurd (let e : k ≡ length rows = c.0 in let f : k + 1 ≡ length rows = a.0 in let no : ⊥ = omega arith in no)
    ]
  ];
  wide = λ k x h. elim (get-pushed rows next x k h) [
    | inl a ↦ levels.wide k x a
    | inr b ↦ ap (λ (z : List (Option Cell)). length z) b.1 ∙ wide
  ];
}

-- level 0 alone, at each rate
pub alone : (graph : TimedGraph) (l w : ℕ) (row : List (Option Cell)) → IsFirst graph (cell_at row) → length row ≡ node_count graph → AreLevels graph l w (row ∷ [])
alone graph l w row first wide = record {
  first = λ x h. subst (λ (z : List (Option Cell)). IsFirst graph (cell_at z)) (same 0 x h) first;
  more = λ k x y h g. absurd (let i : k + 1 < length (row ∷ []) = slice_get_within (row ∷ []) (k + 1) y g in let no : ⊥ = omega arith in no);
  wide = λ k x h. ap (λ (z : List (Option Cell)). length z) (sym (same k x h)) ∙ wide;
}
  where
    same : (k : ℕ) (x : List (Option Cell)) → slice_get (row ∷ []) k ≡ Some x → row ≡ x
    same k x h = let i : k < length (row ∷ []) = slice_get_within (row ∷ []) k x h in
        let z : k ≡ 0 = omega arith in
        let s : ◌≡◌ {A = Option (List (Option Cell))} (Some row) (Some x) = ap (λ n. slice_get (row ∷ []) n) (sym z) ∙ h in (cc)

pub alone-small : (graph : TimedGraph) (row : List (Option Cell)) → IsFirst graph (cell_at row) → IsLastSmall (row ∷ [])
alone-small graph row first v c at = let z : c.score ≡ 0 = first.zero_score v c at in omega arith

pub begins : (graph : TimedGraph) (l w : ℕ) (rows : List (List (Option Cell))) (level : ℕ) → AreLevels graph l w rows → 1 ≤ length rows → IsLastSmall rows → level ≡ length rows - 1 → IsGoingOn graph l w rows level level 0
begins graph l w rows level levels made small is = record {
  levels = levels;
  count = omega arith;
  small = subst (λ n. AreSmall (n * 102400000000000000) (cell_at (slice_index_or rows n []))) (sym is) small;
  wide = levels.wide level (slice_index_or rows level []) (slice_get-get_or rows level [] (omega arith));
  top = inl refl;
}

-- past level 0 what edges bring from cells that they didn't raise is there
pub honoured-by : (graph : TimedGraph) (l w : ℕ) (rows : List (List (Option Cell))) (first level v : ℕ) (es : List Edge) (row : List (Option Cell)) → IsGoingOn graph l w rows first level v → 1 ≤ level
    → es ≡ graph.edges → row ≡ slice_index_or rows level [] → AreHonoured es l w (cell_at row)
honoured-by graph l w rows first level v es row on some es_is row_is =
    let count : length rows ≡ level + 1 = on.count in
    let before : slice_get rows (level - 1) ≡ Some (slice_index_or rows (level - 1) []) = slice_get-get_or rows (level - 1) [] (omega arith) in
    let at : slice_get rows level ≡ Some (slice_index_or rows level []) = slice_get-get_or rows level [] (omega arith) in
    let same : level ≡ level - 1 + 1 = omega arith in
    let here : slice_get rows (level - 1 + 1) ≡ Some row = ap (λ n. slice_get rows n) (sym same) ∙ at ∙ ap (λ (z : List (Option Cell)). Some z) (sym row_is) in
    subst (λ (z : List Edge). AreHonoured z l w (cell_at row)) (sym es_is)
    (raised-honoured graph.edges l w (cell_at (slice_index_or rows (level - 1) [])) (cell_at row) (on.levels.more (level - 1) (slice_index_or rows (level - 1) []) row before here))

-- a search that ends at its last level
pub through : (graph : TimedGraph) (l w : ℕ) (rows : List (List (Option Cell))) (first level v most : ℕ) → IsGoingOn graph l w rows first level v → level ≡ most → first < most
    → (length rows ≡ most + 1) × (v < node_count graph) × IsRaisedAt rows most v × IsLastSmall rows
through graph l w rows first level v most on is less =
    let count : length rows ≡ level + 1 = on.count in
    let last : level ≡ length rows - 1 = omega arith in
    let small : IsLastSmall rows = subst (λ n. AreSmall (n * 102400000000000000) (cell_at (slice_index_or rows n []))) last on.small in
    elim on.top [
      | inl same ↦ absurd (let no : ⊥ = omega arith in no)
      | inr (below, raised) ↦ (omega arith, below, subst (λ n. IsRaisedAt rows n v) is raised, small)
    ]

pub go-on : (graph : TimedGraph) (l w : ℕ) (rows rows' : List (List (Option Cell))) (first level v v' number : ℕ) (c : Cell) (next : List (Option Cell)) → IsSound graph → l ≤ 1024 → w ≤ 102400000000000000
    → IsGoingOn graph l w rows first level v → IsRaised graph.edges (length graph.edges) l w (cell_at (slice_index_or rows level [])) (cell_at next)
    → length next ≡ length (slice_index_or rows level []) → v' < length next → cell_at next v' ≡ Some c → c.edge ≡ Some number → rows' ≡ rows ++ next ∷ []
    → IsGoingOn graph l w rows' first (level + 1) v'
go-on graph l w rows rows' first level v v' number c next sound low time on raised wide inside is edge same =
    subst (λ (z : List (List (Option Cell))). IsGoingOn graph l w z first (level + 1) v') (sym same)
    (let count : length rows ≡ level + 1 = on.count in
    let whole : length next ≡ node_count graph = wide ∙ on.wide in
    let at : slice_get rows level ≡ Some (slice_index_or rows level []) = slice_get-get_or rows level [] (omega arith) in
    let last : slice_get (rows ++ next ∷ []) (level + 1) ≡ Some next = ap (λ n. slice_get (rows ++ next ∷ []) n) (sym count) ∙ get-last rows next in
    let here : slice_index_or (rows ++ next ∷ []) (level + 1) [] ≡ next = get_or_from_slice_get (rows ++ next ∷ []) (level + 1) next [] last in
    record {
      levels = levels-more graph l w rows level (slice_index_or rows level []) next on.levels count at raised whole;
      count = (let a : length (rows ++ next ∷ []) ≡ length rows + 1 = length-append rows (next ∷ []) in omega arith);
      small = subst (λ (z : List (Option Cell)). AreSmall ((level + 1) * 102400000000000000) (cell_at z)) (sym here)
          (subst (λ n. AreSmall n (cell_at next)) (let e : level * 102400000000000000 + 102400000000000000 ≡ (level + 1) * 102400000000000000 = omega arith in e)
          (raised-small graph.edges (graph.states * graph.tokens) l w (level * 102400000000000000) (cell_at (slice_index_or rows level [])) (cell_at next) sound.edges low time raised on.small));
      wide = ap (λ (z : List (Option Cell)). length z) here ∙ whole;
      top = inr ((let i : v' < length next = inside in omega arith), (next, c, number, last, is, edge));
    })

pub ended : (graph : TimedGraph) (l w : ℕ) (rows : List (List (Option Cell))) (first level v : ℕ) (next : List (Option Cell)) → IsGoingOn graph l w rows first level v
    → IsRaised graph.edges (length graph.edges) l w (cell_at (slice_index_or rows level [])) (cell_at next) → AreSettled (cell_at next) → level ≤ 1024
    → IsLast graph l w rows level (slice_index_or rows level [])
ended graph l w rows first level v next on raised settled few = record {
  count = on.count;
  at = slice_get-get_or rows level [] (let count : length rows ≡ level + 1 = on.count in omega arith);
  next = next;
  raised = raised;
  settled = settled;
  small = λ u c at. (let a : c.score ≤ level * 102400000000000000 = on.small u c at in let b : level * 102400000000000000 ≤ 1024 * 102400000000000000 = mul-le-mul_right 102400000000000000 few in omega arith);
}

-- the same as code has it, with the names that calls give to these lists
pub go-on-by : (graph : TimedGraph) (l w : ℕ) (rows rows' : List (List (Option Cell))) (first level v v' : ℕ) (es : List Edge) (row next view item : List (Option Cell)) → IsSound graph → l ≤ 1024 → w ≤ 102400000000000000
    → IsGoingOn graph l w rows first level v → IsRaised es (length es) l w (cell_at row) (cell_at next) → length next ≡ length row
    → es ≡ graph.edges → row ≡ slice_index_or rows level [] → view ≡ next → item ≡ next
    → (v' < length view) × ((c : Cell) × (cell_at view v' ≡ Some c) × ((k : ℕ) × (c.edge ≡ Some k))) → rows' ≡ rows ++ item ∷ []
    → IsGoingOn graph l w rows' first (level + 1) v'
go-on-by graph l w rows rows' first level v v' es row next view item sound low time on raised wide es_is row_is view_is item_is (inside, (c, at, (k, edge))) same =
    go-on graph l w rows rows' first level v v' k c next sound low time on
    (subst (λ (z : List (Option Cell)). IsRaised graph.edges (length graph.edges) l w (cell_at z) (cell_at next)) row_is
    (subst (λ (z : List Edge). IsRaised z (length z) l w (cell_at row) (cell_at next)) es_is raised))
    (wide ∙ ap (λ (z : List (Option Cell)). length z) row_is)
    (subst (λ (z : List (Option Cell)). v' < length z) view_is inside)
    (ap (λ (z : List (Option Cell)). cell_at z v') (sym view_is) ∙ at) edge
    (same ∙ ap (λ (z : List (Option Cell)). rows ++ z ∷ []) item_is)

pub ended-by : (graph : TimedGraph) (l w : ℕ) (rows : List (List (Option Cell))) (first level v : ℕ) (es : List Edge) (row next view : List (Option Cell)) → IsGoingOn graph l w rows first level v
    → IsRaised es (length es) l w (cell_at row) (cell_at next) → es ≡ graph.edges → row ≡ slice_index_or rows level [] → view ≡ next → AreSettled (cell_at view) → level ≤ 1024
    → IsLast graph l w rows level (slice_index_or rows level [])
ended-by graph l w rows first level v es row next view on raised es_is row_is view_is settled few =
    ended graph l w rows first level v next on
    (subst (λ (z : List (Option Cell)). IsRaised graph.edges (length graph.edges) l w (cell_at z) (cell_at next)) row_is
    (subst (λ (z : List Edge). IsRaised z (length z) l w (cell_at row) (cell_at next)) es_is raised))
    (subst (λ (z : List (Option Cell)). AreSettled (cell_at z)) view_is settled) few
