-- Potentials while they are gone through.
use Rattle.std.specs.Prelude.{◌≡◌, ℕ, ◌+◌, ◌*◌, ◌≤◌, ◌<◌, ℤ, pos, ◌+ℤ◌, ◌≤ℤ◌, List, length, slice_index_or, Some}
use Rattle.automaton.specs.declared.graph.Edge.{Edge}
use Rattle.automaton.specs.declared.graph.TimedGraph.{TimedGraph}
use Rattle.automaton.specs.CriticalCycles.{IsReachedNode}
use Rattle.cert_checker.specs.ListedNodes.{IsNode, node_at, potential_of}

-- the first k potentials are those of the reachable nodes below v
pub record UpTo (graph : TimedGraph) (ps : List (ℕ × ℕ × ℤ)) (v k : ℕ) : Type 0 where
  pub within : k ≤ length ps
  pub known : (i : ℕ) → i < k → IsNode graph ((slice_index_or ps i (0, 0, pos 0)).0, (slice_index_or ps i (0, 0, pos 0)).1)
  pub reached : (i : ℕ) → i < k → IsReachedNode graph (node_at graph ps i)
  pub below : (i : ℕ) → i < k → node_at graph ps i < v
  pub rise : (i : ℕ) → i + 1 < k → node_at graph ps i < node_at graph ps (i + 1)
  pub all : (u : ℕ) → u < v → IsReachedNode graph u → (i : ℕ) × (i < k) × (node_at graph ps i ≡ u)

-- potential k is of node v
pub record IsNextPotential (graph : TimedGraph) (ps : List (ℕ × ℕ × ℤ)) (v k : ℕ) : Type 0 where
  pub below : k < length ps
  pub known : IsNode graph ((slice_index_or ps k (0, 0, pos 0)).0, (slice_index_or ps k (0, 0, pos 0)).1)
  pub node : node_at graph ps k ≡ v

-- an edge leads elsewhere, or is kept by potential y at node v
abbrev pub IsKeptTo : TimedGraph → ℕ × ℕ → List (ℕ × ℕ × ℤ) → ℕ → ℤ → Edge → Type 0
IsKeptTo graph rate ps v y e = e.to ≡ v → (x : ℤ) → potential_of graph ps e.from ≡ Some x → (x +ℤ pos (e.weight * rate.0)) ≤ℤ (y +ℤ pos rate.1)

abbrev pub AreKeptTo : TimedGraph → ℕ × ℕ → List (ℕ × ℕ × ℤ) → ℕ → ℤ → ℕ → Type 0
AreKeptTo graph rate ps v y n = (k : ℕ) (d : Edge) → k < n → IsKeptTo graph rate ps v y (slice_index_or graph.edges k d)
