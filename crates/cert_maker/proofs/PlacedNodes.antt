-- Nodes of a file's timed graph, each a state and a token, and the one weight of its edges between two of them.
use Rattle.std.proofs.Common.{◌≡◌, ℕ, ◌+◌, ◌*◌, ◌/◌, ◌%◌, ◌<◌, List, [], ◌∷◌, length, Option, Some, None, sym, ap, subst, ◌∙◌, arith}
use Rattle.std.specs.Prelude.{slice_get, slice_index_or}
use Rattle.std.proofs.lemmas.Nat.{div-mul-add, mod-mul-add, same_from_place}
use Rattle.std.proofs.lemmas.Option.{slice_get_within, same_Some}
use Rattle.sd_base.specs.declared.tables.ScenarioFile.{ScenarioFile}
use Rattle.sd_base.specs.declared.tables.StateRow.{StateRow}
use Rattle.sd_base.specs.Scenarios.{shared_count}
use Rattle.sd_base.proofs.ElementsKeepPlaces.{get-there}
use Rattle.automaton.specs.declared.graph.Edge.{Edge}
use Rattle.automaton.specs.declared.graph.TimedGraph.{TimedGraph}
use Rattle.automaton.specs.TimedGraphs.{IsTimedGraph}
use Rattle.automaton.specs.CriticalCycles.{IsPath, IsReachedNode}
use Rattle.automaton.proofs.EdgesComeFromEntries.{Has, get-has, from-from, FromStates}

-- node v is that of a state and a token
pub record IsPlaced (states n v : ℕ) : Type 0 where
  pub state : ℕ
  pub token : ℕ
  pub is_state : state < states
  pub is_token : token < n
  pub at : v ≡ state * n + token

pub by-parts : (states n v : ℕ) → IsPlaced states n v → (v / n < states) × (v % n < n)
by-parts states n v p =
    let state : v / n ≡ p.state = ap (λ x. x / n) p.at ∙ div-mul-add p.state n p.token p.is_token in
    let token : v % n ≡ p.token = ap (λ x. x % n) p.at ∙ mod-mul-add p.state n p.token p.is_token in
    (rw state p.is_state, rw token p.is_token)

-- the entry of row j and column i
abbrev entry_in : List (List (Option ℕ)) → ℕ → ℕ → Option ℕ
entry_in rows j i = slice_index_or (slice_index_or rows j []) i None

-- an edge by what it is made of: states, tokens and the entry of a matrix
record IsMadeOf (file : ScenarioFile) (matrices : List (List (List (Option ℕ)))) (f t w : ℕ) : Type 0 where
  state : ℕ
  token : ℕ
  next : ℕ
  later : ℕ
  row : StateRow
  at : slice_get file.states state ≡ Some row
  is_state : state < length file.states
  is_token : token < shared_count file.shared
  is_next : next < length file.states
  is_later : later < shared_count file.shared
  from : f ≡ state * shared_count file.shared + token
  to : t ≡ next * shared_count file.shared + later
  entry : entry_in (slice_index_or matrices row.scenario []) later token ≡ Some w

module _ (file : ScenarioFile) (graph : TimedGraph) (is : IsTimedGraph file graph) where
  abbrev n : ℕ
  n = shared_count file.shared

  made : (f t w : ℕ) → FromStates n 0 is.matrices file.states f t w → IsMadeOf file is.matrices f t w
  made f t w h =
      let rows = h.out.rows_of in
      let scenario = get-there file.scenarios h.state.scenario (is.leads_on.scenarios h.place h.state h.at) in
      let matrix = (is.are_matrices.each h.state.scenario scenario.0 scenario.1).2 in
      let j : rows.j < n = subst (λ m. rows.j < m) matrix.size rows.row in
      let first : 0 + h.place ≡ h.place = omega arith in
      record {
        state = h.place;
        token = rows.i;
        next = h.out.r;
        later = rows.j;
        row = h.state;
        at = h.at;
        is_state = slice_get_within file.states h.place h.state h.at;
        is_token = subst (λ m. rows.i < m) (matrix.square rows.j j) rows.within;
        is_next = is.leads_on.known h.place h.out.p h.out.r h.state h.at h.out.to;
        is_later = j;
        from = rows.start ∙ ap (λ q. q * n + rows.i) first;
        to = rows.end;
        entry = rows.entry;
      }

  of-edge : (k : ℕ) (e : Edge) → slice_get graph.edges k ≡ Some e → IsMadeOf file is.matrices e.from e.to e.weight
  of-edge k e at = made e.from e.to e.weight (from-from n 0 is.matrices file.states e.from e.to e.weight (subst (λ es. Has es e.from e.to e.weight) is.edges (get-has graph.edges k e at)))

  -- edges with the same ends are made of the same entry
  same-entry : (f t v w : ℕ) → IsMadeOf file is.matrices f t v → IsMadeOf file is.matrices f t w → v ≡ w
  same-entry f t v w a b =
      let first = same_from_place a.state a.token b.state b.token n a.is_token b.is_token (sym a.from ∙ b.from) in
      let last = same_from_place a.next a.later b.next b.later n a.is_later b.is_later (sym a.to ∙ b.to) in
      let row : a.row ≡ b.row = same_Some a.row b.row (sym a.at ∙ ap (slice_get file.states) first.0 ∙ b.at) in
      same_Some v w (sym a.entry
      ∙ ap (λ (s : StateRow). entry_in (slice_index_or is.matrices s.scenario []) a.later a.token) row
      ∙ ap (λ j. entry_in (slice_index_or is.matrices b.row.scenario []) j a.token) last.1
      ∙ ap (λ i. entry_in (slice_index_or is.matrices b.row.scenario []) b.later i) first.1
      ∙ b.entry)

  pub one-weight : (k m : ℕ) (e d : Edge) → slice_get graph.edges k ≡ Some e → slice_get graph.edges m ≡ Some d → e.from ≡ d.from → e.to ≡ d.to → e.weight ≡ d.weight
  one-weight k m e d at also from to =
      same-entry d.from d.to e.weight d.weight
      (subst (λ t. IsMadeOf file is.matrices d.from t e.weight) to (subst (λ f. IsMadeOf file is.matrices f e.to e.weight) from (of-edge k e at)))
      (of-edge m d also)

  placed : (v q i : ℕ) → q < length file.states → i < n → v ≡ q * n + i → IsPlaced graph.states graph.tokens v
  placed v q i state token at = rw (is.states, is.tokens) (record { state = q; token = i; is_state = state; is_token = token; at = at })

  pub entered-placed : (k : ℕ) (e : Edge) → slice_get graph.edges k ≡ Some e → IsPlaced graph.states graph.tokens e.to
  entered-placed k e at = let m = of-edge k e at in placed e.to m.next m.later m.is_next m.is_later m.to

  path-placed : (ks : List ℕ) (u v : ℕ) → IsPlaced graph.states graph.tokens u → IsPath graph.edges u ks v → IsPlaced graph.states graph.tokens v
  path-placed [] u v here path = subst (IsPlaced graph.states graph.tokens) path here
  path-placed (k ∷ ks) u v here path = path-placed ks path.0.to v (entered-placed k path.0 path.1) path.3

  -- the nodes that are reached
  pub reached-placed : (v : ℕ) → IsReachedNode graph v → IsPlaced graph.states graph.tokens v
  reached-placed v (u, ks, (i, token, start), path) = path-placed ks u v (record {
    state = graph.initial;
    token = i;
    is_state = rw (is.initial, is.states) is.leads_on.initial;
    is_token = token;
    at = start;
  }) path
