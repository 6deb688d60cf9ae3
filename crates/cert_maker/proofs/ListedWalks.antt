-- A cycle of a file's timed graph, by its nodes, is a closed walk of the weights of its edges.
use Rattle.std.proofs.Common.{◌≡◌, ℕ, zero, suc, ◌+◌, ◌*◌, Bool, true, false, cond, ◌&&◌, All, map, Option, None, Some, List, [], ◌∷◌, length, refl, sym, ap, ap₂, subst, ◌∙◌, arith}
use Rattle.std.specs.Prelude.{slice_get, slice_index_or, ◌==◌}
use Rattle.std.specs.List.{find}
use Rattle.std.specs.Option.{option_map}
use Rattle.std.proofs.lemmas.Bool.Decides.{nat_tests}
use Rattle.std.proofs.lemmas.Nat.{div-add-mod'}
use Rattle.std.proofs.lemmas.Option.{get_or_from_slice_get}
use Rattle.sd_base.specs.declared.tables.ScenarioFile.{ScenarioFile}
use Rattle.automaton.specs.declared.graph.Edge.{Edge}
use Rattle.automaton.specs.declared.graph.TimedGraph.{TimedGraph}
use Rattle.automaton.specs.TimedGraphs.{IsTimedGraph}
use Rattle.automaton.specs.CriticalCycles.{IsCritical, IsPath, IsReachedNode, weight_in, weights}
use Rattle.cert_checker.specs.ListedNodes.{IsClosedWalk, IsNode, end_of, time_on, weight_between}
use Rattle.cert_checker.specs.ListedNodes as listed
use Rattle.cert_checker.proofs.WalkTimes.{between}
use Rattle.cert_maker.specs.WorstCertificates.{entered, no_edge, node_of, nodes_on}
use Rattle.cert_maker.proofs.PlacedNodes.{IsPlaced, by-parts, entered-placed, one-weight, reached-placed}

turned : (a b l w : ℕ) → a * l ≡ w * b → b * w ≡ l * a
turned a b l w same = omega (arith, same)

-- an edge between two nodes is found
found-first : (es : List Edge) (k : ℕ) (e : Edge) → slice_get es k ≡ Some e → (w : ℕ) × (weight_between es e.from e.to ≡ Some w)
found-first [] k e at = absurd (cc)
found-first (x ∷ es) k e at = go k at ((x.from == e.from) && (x.to == e.to)) refl (λ j later. found-first es j e later)
  where
    go : (k : ℕ) → slice_get (x ∷ es) k ≡ Some e → (b : Bool) → ((x.from == e.from) && (x.to == e.to)) ≡ b → ((j : ℕ) → slice_get es j ≡ Some e → (w : ℕ) × (weight_between es e.from e.to ≡ Some w))
        → (w : ℕ) × (option_map (λ (y : Edge). y.weight) (cond b (Some x) (find (λ (y : Edge). (y.from == e.from) && (y.to == e.to)) es)) ≡ Some w)
    go k here true test rest = (x.weight, refl)
    go zero here false test rest = absurd (let same : x ≡ e = cc in grind (arith, nat_tests, test, ap (λ (y : Edge). y.from) same, ap (λ (y : Edge). y.to) same))
    go (suc j) later false test rest = rest j later

module _ (graph : TimedGraph) where
  -- the node of a number
  abbrev pub parts : ℕ → ℕ × ℕ
  parts v = node_of graph.tokens v

  pub back : (v : ℕ) → listed.node_of graph (parts v) ≡ v
  back v = div-add-mod' v graph.tokens

  pub is-node : (v : ℕ) → IsPlaced graph.states graph.tokens v → IsNode graph (parts v)
  is-node v p = by-parts graph.states graph.tokens v p

  enters : (k : ℕ) (e : Edge) → slice_get graph.edges k ≡ Some e → entered graph k ≡ parts e.to
  enters k e at = ap (λ (x : Edge). parts x.to) (get_or_from_slice_get graph.edges k e no_edge at)

  leaves : (k : ℕ) (e : Edge) → slice_get graph.edges k ≡ Some e → node_of graph.tokens (slice_index_or graph.edges k no_edge).from ≡ parts e.from
  leaves k e at = ap (λ (x : Edge). parts x.from) (get_or_from_slice_get graph.edges k e no_edge at)

  -- a step of a walk
  on-step : (time w z : ℕ) (u x : ℕ × ℕ) (xs : List (ℕ × ℕ)) → weight_between graph.edges (listed.node_of graph u) (listed.node_of graph x) ≡ Some w → time_on graph (time + w) x xs ≡ Some z
      → time_on graph time u (x ∷ xs) ≡ Some z
  on-step time w z u x xs weight on = subst (λ (o : Option ℕ). (elim o [ Some weight ↦ time_on graph (time + weight) x xs | None ↦ None ]) ≡ Some z) (sym weight) on

  ends : (ks : List ℕ) (u v : ℕ) → IsPath graph.edges u ks v → end_of (parts u) (map (entered graph) ks) ≡ parts v
  ends [] u v path = ap parts path
  ends (k ∷ ks) u v path = ap (λ (x : ℕ × ℕ). end_of x (map (entered graph) ks)) (enters k path.0 path.1) ∙ ends ks path.0.to v path.3

module _ (file : ScenarioFile) (graph : TimedGraph) (is : IsTimedGraph file graph) where
  -- between two nodes the first edge has the weight of each
  weighs : (k : ℕ) (e : Edge) → slice_get graph.edges k ≡ Some e → weight_between graph.edges e.from e.to ≡ Some e.weight
  weighs k e at =
      let first = found-first graph.edges k e at in
      let b = between graph.edges e.from e.to first.0 first.1 in
      first.1 ∙ ap (λ n. Some n) (sym b.weight ∙ one-weight file graph is b.number k b.edge e b.there at b.from b.to)

  takes : (ks : List ℕ) (u v time : ℕ) → IsPath graph.edges u ks v → time_on graph time (parts graph u) (map (entered graph) ks) ≡ Some (time + weights graph.edges ks)
  takes [] u v time path = ap (λ n. Some n) (let e : time ≡ time + 0 = omega arith in e)
  takes (k ∷ ks) u v time path =
      let e : Edge = path.0 in
      let weight : weight_between graph.edges (listed.node_of graph (parts graph u)) (listed.node_of graph (parts graph e.to)) ≡ Some e.weight =
      ap₂ (weight_between graph.edges) (back graph u ∙ path.2) (back graph e.to) ∙ weighs k e path.1 in
      let own : weight_in (slice_get graph.edges k) ≡ e.weight = ap weight_in path.1 in
      let sum : time + e.weight + weights graph.edges ks ≡ time + (weight_in (slice_get graph.edges k) + weights graph.edges ks) = omega (arith, own) in
      subst (λ (x : ℕ × ℕ). time_on graph time (parts graph u) (x ∷ map (entered graph) ks) ≡ Some (time + weights graph.edges (k ∷ ks))) (sym (enters graph k e path.1))
      (on-step graph time e.weight (time + weights graph.edges (k ∷ ks)) (parts graph u) (parts graph e.to) (map (entered graph) ks) weight
      (takes ks e.to v (time + e.weight) path.3 ∙ ap (λ n. Some n) sum))

  known : (ks : List ℕ) (u v : ℕ) → IsPath graph.edges u ks v → All (IsNode graph) (map (entered graph) ks)
  known [] u v path i d below = absurd (omega (arith, below))
  known (k ∷ ks) u v path zero d below = subst (IsNode graph) (sym (enters graph k path.0 path.1)) (is-node graph path.0.to (entered-placed file graph is k path.0 path.1))
  known (k ∷ ks) u v path (suc i) d below = known ks path.0.to v path.3 i d (omega arith)

  long : (ks : List ℕ) → length (map (entered graph) ks) ≡ length ks
  long [] = refl
  long (k ∷ ks) = ap suc (long ks)

  -- a critical cycle
  pub closed-walk : (l w : ℕ) (ks : List ℕ) → IsCritical graph l w ks → IsClosedWalk graph (l, w) (weights graph.edges ks) (nodes_on graph ks)
  closed-walk l w [] c = absurd (let some = c.some in omega (arith, some))
  closed-walk l w (k ∷ ks) c =
      let v = c.node in
      let at = c.closed in
      let begins : node_of graph.tokens (slice_index_or graph.edges k no_edge).from ≡ parts graph v = leaves graph k at.0 at.1 ∙ ap (parts graph) (sym at.2) in
      subst (λ (x : ℕ × ℕ). IsClosedWalk graph (l, w) (weights graph.edges (k ∷ ks)) (x ∷ map (entered graph) (k ∷ ks))) (sym begins) (record {
        some = omega arith;
        first = is-node graph v (reached-placed file graph is v c.reached);
        known = known (k ∷ ks) v v at;
        closed = ends graph (k ∷ ks) v v at;
        reached = subst (IsReachedNode graph) (sym (back graph v)) c.reached;
        joined = takes (k ∷ ks) v v 0 at ∙ ap (λ n. Some n) (let e : 0 + weights graph.edges (k ∷ ks) ≡ weights graph.edges (k ∷ ks) = omega arith in e);
        ratio = ap (λ n. n * w) (long (k ∷ ks)) ∙ turned (weights graph.edges (k ∷ ks)) (length (k ∷ ks)) l w c.rate;
      })
