-- Times of walks along listed nodes.
use Rattle.std.proofs.Common.{◌≡◌, ℕ, suc, ◌+◌, ◌*◌, ◌≤◌, ◌<◌, Bool, true, false, cond, ◌&&◌, Option, None, Some, List, [], ◌∷◌, length, refl, sym, ap, subst, ◌∙◌, arith}
use Rattle.std.specs.Prelude.{slice_get, slice_index_or, ◌==◌}
use Rattle.std.specs.List.{find}
use Rattle.std.specs.Option.{option_map}
use Rattle.std.proofs.lemmas.Bool.{eqb-true, and_parts}
use Rattle.std.proofs.lemmas.Option.{same_Some}
use Rattle.automaton.specs.declared.graph.Edge.{Edge}
use Rattle.automaton.specs.declared.graph.TimedGraph.{TimedGraph}
use Rattle.automaton.specs.CriticalCycles.{IsPath, weights, weight_in, IsCritical}
use Rattle.cert_checker.specs.ListedNodes.{node_of, weight_between, time_on, end_of, IsListedWalk}

-- an edge between two nodes, by its number
pub record Between (es : List Edge) (u v w : ℕ) : Type 0 where
  pub number : ℕ
  pub edge : Edge
  pub there : slice_get es number ≡ Some edge
  pub from : edge.from ≡ u
  pub to : edge.to ≡ v
  pub weight : edge.weight ≡ w

pub between : (es : List Edge) (u v w : ℕ) → weight_between es u v ≡ Some w → Between es u v w
between [] u v w is = absurd (cc)
between (e ∷ es) u v w is = go (between es u v w) ((e.from == u) && (e.to == v)) refl is
  where
    go : (weight_between es u v ≡ Some w → Between es u v w) → (b : Bool) → ((e.from == u) && (e.to == v)) ≡ b
        → option_map (λ (x : Edge). x.weight) (cond b (Some e) (find (λ (x : Edge). (x.from == u) && (x.to == v)) es)) ≡ Some w → Between (e ∷ es) u v w
    go later true test h =
        let both = and_parts (e.from == u) (e.to == v) test in
        record { number = 0; edge = e; there = refl; from = eqb-true e.from u both.0; to = eqb-true e.to v both.1; weight = same_Some e.weight w h }
    go later false test h = let b = later h in record { number = suc b.number; edge = b.edge; there = b.there; from = b.from; to = b.to; weight = b.weight }

-- the edges of a walk
pub record Walked (graph : TimedGraph) (u : ℕ × ℕ) (nodes : List (ℕ × ℕ)) (time z : ℕ) : Type 0 where
  pub edges : List ℕ
  pub path : IsPath graph.edges (node_of graph u) edges (node_of graph (end_of u nodes))
  pub long : length edges ≡ length nodes
  pub takes : time + weights graph.edges edges ≡ z

pub walked : (graph : TimedGraph) (time : ℕ) (u : ℕ × ℕ) (nodes : List (ℕ × ℕ)) (z : ℕ) → time_on graph time u nodes ≡ Some z → Walked graph u nodes time z
walked graph time u [] z is = record { edges = []; path = refl; long = refl; takes = (let e : time ≡ z = same_Some time z is in omega arith) }
walked graph time u (x ∷ xs) z is = go (weight_between graph.edges (node_of graph u) (node_of graph x)) refl (λ w. walked graph (time + w) x xs z) is
  where
    go : (o : Option ℕ) → weight_between graph.edges (node_of graph u) (node_of graph x) ≡ o → ((w : ℕ) → time_on graph (time + w) x xs ≡ Some z → Walked graph x xs (time + w) z)
        → (elim o [ Some weight ↦ time_on graph (time + weight) x xs | None ↦ None ]) ≡ Some z → Walked graph u (x ∷ xs) time z
    go None e later h = absurd (cc)
    go (Some w) e later h =
        let rest = later w h in
        let b = between graph.edges (node_of graph u) (node_of graph x) w e in
        record {
          edges = b.number ∷ rest.edges;
          path = (b.edge, b.there, sym b.from, subst (λ (n : ℕ). IsPath graph.edges n rest.edges (node_of graph (end_of x xs))) (sym b.to) rest.path);
          long = ap suc rest.long;
          takes =
              let one : weight_in (slice_get graph.edges b.number) ≡ w = ap weight_in b.there ∙ b.weight in
              omega (arith, rest.takes);
        }

-- no walk is shorter than what has passed
pub time-grows : (graph : TimedGraph) (time : ℕ) (u : ℕ × ℕ) (nodes : List (ℕ × ℕ)) (z : ℕ) → time_on graph time u nodes ≡ Some z → time ≤ z
time-grows graph time u nodes z is = let w = walked graph time u nodes z is in omega (arith, w.takes)

-- a walk that is valid is a critical cycle of the rate
pub critical-walk : (graph : TimedGraph) (rate : ℕ × ℕ) (time : ℕ) (u : ℕ × ℕ) (nodes : List (ℕ × ℕ)) (walk : IsListedWalk graph rate time u nodes)
    → IsCritical graph rate.0 rate.1 (walked graph 0 u nodes time walk.joined).edges
critical-walk graph rate time u nodes walk =
    let w = walked graph 0 u nodes time walk.joined in
    record {
      node = node_of graph u;
      reached = walk.reached;
      closed = subst (λ (x : ℕ × ℕ). IsPath graph.edges (node_of graph u) (walked graph 0 u nodes time walk.joined).edges (node_of graph x)) walk.closed w.path;
      some = omega (arith, w.long, walk.some);
      rate =
          let takes : weights graph.edges (walked graph 0 u nodes time walk.joined).edges ≡ time = omega (arith, w.takes) in
          let long : length (walked graph 0 u nodes time walk.joined).edges ≡ length nodes = w.long in
          rw (takes, long) (let ratio : length nodes * rate.1 ≡ rate.0 * time = walk.ratio in omega arith);
    }

-- a step that passes the time
pub over-time : (graph : TimedGraph) (time : ℕ) (u : ℕ × ℕ) (rest : List (ℕ × ℕ)) (d : ℕ × ℕ) (w z : ℕ) → 1 ≤ length rest → Some w ≡ weight_between graph.edges (node_of graph u) (node_of graph (slice_index_or rest 0 d))
    → z < time + w → time_on graph time u rest ≡ Some z → ⊥
over-time graph time u [] d w z some weight over is = omega arith
over-time graph time u (x ∷ xs) d w z some weight over is =
    let on : time_on graph (time + w) x xs ≡ Some z = subst (λ (o : Option ℕ). (elim o [ Some weight ↦ time_on graph (time + weight) x xs | None ↦ None ]) ≡ Some z) (sym weight) is in
    omega (arith, time-grows graph (time + w) x xs z on)
