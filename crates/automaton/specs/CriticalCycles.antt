-- Walks of a timed graph, potentials and critical cycles.
use Rattle.std.specs.Prelude.{◌≡◌, ℕ, ◌+◌, ◌*◌, ◌≤◌, ◌<◌, ℤ, pos, ◌+ℤ◌, ◌≤ℤ◌, List, [], ◌∷◌, length, slice_get, Option, Some, None}
use Rattle.automaton.specs.declared.graph.Edge.{Edge}
use Rattle.automaton.specs.declared.graph.TimedGraph.{TimedGraph}

-- the edges of these numbers lead from u to v
abbrev pub IsPath : List Edge → ℕ → List ℕ → ℕ → Type 0
IsPath es u [] v = u ≡ v
IsPath es u (k ∷ ks) v = (e : Edge) × (slice_get es k ≡ Some e) × (u ≡ e.from) × IsPath es e.to ks v

-- the weight of an edge, by its number
abbrev pub weight_in : Option Edge → ℕ
weight_in None = 0
weight_in (Some e) = e.weight

-- the sum of the weights of edges
abbrev pub weights : List Edge → List ℕ → ℕ
weights es [] = 0
weights es (k ∷ ks) = weight_in (slice_get es k) + weights es ks

-- a node of the initial state
abbrev pub IsStart : TimedGraph → ℕ → Type 0
IsStart graph v = (i : ℕ) × (i < graph.tokens) × (v ≡ graph.initial * graph.tokens + i)

-- a node to which a walk from a node of the initial state leads
abbrev pub IsReachedNode : TimedGraph → ℕ → Type 0
IsReachedNode graph v = (u : ℕ) × (ks : List ℕ) × IsStart graph u × IsPath graph.edges u ks v

-- potentials fit the rate l/w
pub record Fit (graph : TimedGraph) (l w : ℕ) (p : ℕ → Option ℤ) : Type 0 where
  pub there : (v : ℕ) → IsReachedNode graph v → (x : ℤ) × (p v ≡ Some x)
  pub starts : (v : ℕ) (x : ℤ) → IsStart graph v → p v ≡ Some x → pos 0 ≤ℤ x
  pub steps : (k : ℕ) (e : Edge) (x y : ℤ) → IsReachedNode graph e.from → slice_get graph.edges k ≡ Some e → p e.from ≡ Some x → p e.to ≡ Some y
      → (x +ℤ pos (e.weight * l)) ≤ℤ (y +ℤ pos w)

-- where potentials stand, they are no greater than others that fit the rate l/w
abbrev pub AreLeast : TimedGraph → ℕ → ℕ → (ℕ → Option ℤ) → Type 0
AreLeast graph l w p = (q : ℕ → Option ℤ) → Fit graph l w q → (v : ℕ) (x y : ℤ) → p v ≡ Some x → q v ≡ Some y → x ≤ℤ y

-- a closed walk through reached nodes with as many edges for its weights as l for w
pub record IsCritical (graph : TimedGraph) (l w : ℕ) (cycle : List ℕ) : Type 0 where
  pub node : ℕ
  pub reached : IsReachedNode graph node
  pub closed : IsPath graph.edges node cycle node
  pub some : 1 ≤ length cycle
  pub rate : weights graph.edges cycle * l ≡ w * length cycle
