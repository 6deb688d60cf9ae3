-- Nodes of timed graphs that a certificate lists, each as a state and a token: walks along them, and potentials.
use Rattle.std.specs.Prelude.{◌≡◌, ℕ, ◌+◌, ◌*◌, ◌≤◌, ◌<◌, ◌==◌, ◌&&◌, ℤ, pos, ◌+ℤ◌, ◌≤ℤ◌, All, List, [], ◌∷◌, length, slice_get, slice_index_or, Option, Some, None}
use Rattle.std.specs.List.{find}
use Rattle.std.specs.Option.{option_map}
use Rattle.automaton.specs.declared.graph.Edge.{Edge}
use Rattle.automaton.specs.declared.graph.TimedGraph.{TimedGraph}
use Rattle.automaton.specs.CriticalCycles.{IsReachedNode, IsStart}

abbrev pub node_of : TimedGraph → ℕ × ℕ → ℕ
node_of graph x = x.0 * graph.tokens + x.1

-- a state of the automaton, and a token that its scenarios share
abbrev pub IsNode : TimedGraph → ℕ × ℕ → Type 0
IsNode graph x = (x.0 < graph.states) × (x.1 < graph.tokens)

-- ---- walks

-- the weight from a node to another, by the first edge between them; none where they aren't joined
abbrev pub weight_between : List Edge → ℕ → ℕ → Option ℕ
weight_between es u v = option_map (λ (e : Edge). e.weight) (find (λ (e : Edge). (e.from == u) && (e.to == v)) es)

-- the time of a walk that has come to node u after a time, and goes on along these nodes; none where two aren't joined
abbrev pub time_on : TimedGraph → ℕ → ℕ × ℕ → List (ℕ × ℕ) → Option ℕ
time_on graph time u [] = Some time
time_on graph time u (x ∷ xs) = elim (weight_between graph.edges (node_of graph u) (node_of graph x)) [ Some weight ↦ time_on graph (time + weight) x xs | None ↦ None ]

-- the last node of a walk from u along these nodes
abbrev pub end_of : ℕ × ℕ → List (ℕ × ℕ) → ℕ × ℕ
end_of u [] = u
end_of u (x ∷ xs) = end_of x xs

-- from u along these nodes, of which there are some, a closed walk of reachable nodes leads in the time, with as many edges for
-- it as the rate has rounds for its time
pub record IsListedWalk (graph : TimedGraph) (rate : ℕ × ℕ) (time : ℕ) (u : ℕ × ℕ) (nodes : List (ℕ × ℕ)) : Type 0 where
  pub some : 1 ≤ length nodes
  pub first : IsNode graph u
  pub known : All (IsNode graph) nodes
  pub closed : end_of u nodes ≡ u
  pub reached : IsReachedNode graph (node_of graph u)
  pub joined : time_on graph 0 u nodes ≡ Some time
  pub ratio : length nodes * rate.1 ≡ rate.0 * time

-- the nodes of a line and of those after it, the first one first
abbrev pub IsClosedWalk : TimedGraph → ℕ × ℕ → ℕ → List (ℕ × ℕ) → Type 0
IsClosedWalk graph rate time [] = ⊥
IsClosedWalk graph rate time (u ∷ nodes) = IsListedWalk graph rate time u nodes

-- ---- potentials

-- the node of a potential, by its number
abbrev pub node_at : TimedGraph → List (ℕ × ℕ × ℤ) → ℕ → ℕ
node_at graph ps i = node_of graph ((slice_index_or ps i (0, 0, pos 0)).0, (slice_index_or ps i (0, 0, pos 0)).1)

-- the potentials are of the reachable nodes, each once, in order
pub record ListsNodes (graph : TimedGraph) (ps : List (ℕ × ℕ × ℤ)) : Type 0 where
  pub known : (i : ℕ) → i < length ps → IsNode graph ((slice_index_or ps i (0, 0, pos 0)).0, (slice_index_or ps i (0, 0, pos 0)).1)
  pub reached : (i : ℕ) → i < length ps → IsReachedNode graph (node_at graph ps i)
  pub rise : (i : ℕ) → i + 1 < length ps → node_at graph ps i < node_at graph ps (i + 1)
  pub all : (v : ℕ) → IsReachedNode graph v → (i : ℕ) × (i < length ps) × (node_at graph ps i ≡ v)

-- the potential that is listed of a node, if there is one
abbrev pub potential_of : TimedGraph → List (ℕ × ℕ × ℤ) → ℕ → Option ℤ
potential_of graph ps v = option_map (λ (p : ℕ × ℕ × ℤ). p.2) (find (λ (p : ℕ × ℕ × ℤ). (p.0 * graph.tokens + p.1) == v) ps)

-- a potential isn't negative where the initial state begins, and over each edge from a node that is listed no less than the rate asks
pub record IsFitting (graph : TimedGraph) (rate : ℕ × ℕ) (ps : List (ℕ × ℕ × ℤ)) (v : ℕ) (y : ℤ) : Type 0 where
  pub start : IsStart graph v → pos 0 ≤ℤ y
  pub steps : (k : ℕ) (e : Edge) (x : ℤ) → slice_get graph.edges k ≡ Some e → e.to ≡ v → potential_of graph ps e.from ≡ Some x
      → (x +ℤ pos (e.weight * rate.0)) ≤ℤ (y +ℤ pos rate.1)

-- that of line i of the potentials is
abbrev pub FitsAt : TimedGraph → ℕ × ℕ → List (ℕ × ℕ × ℤ) → ℕ → Type 0
FitsAt graph rate ps i = IsFitting graph rate ps (node_at graph ps i) (slice_index_or ps i (0, 0, pos 0)).2
