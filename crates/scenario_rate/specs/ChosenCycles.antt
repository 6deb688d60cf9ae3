-- The critical cycle that is chosen.
use Rattle.std.specs.Prelude.{◌≡◌, ℕ, ◌*◌, ◌≤◌, ◌<◌, ◌⊎◌, ℤ, pos, ◌+ℤ◌, List, [], ◌∷◌, length, slice_get, Option, Some, None}
use Rattle.automaton.specs.declared.graph.Edge.{Edge}
use Rattle.automaton.specs.declared.graph.TimedGraph.{TimedGraph}

-- the condition on potentials holds with equality on edge k
abbrev pub IsTight : TimedGraph → ℕ → ℕ → (ℕ → Option ℤ) → ℕ → Type 0
IsTight graph l w p k = (e : Edge) × (x : ℤ) × (y : ℤ) × (slice_get graph.edges k ≡ Some e) × (p e.from ≡ Some x) × (p e.to ≡ Some y) × ((x +ℤ pos (e.weight * l)) ≡ (y +ℤ pos w))

-- tight edges lead from u to v
abbrev pub IsTightPath : TimedGraph → ℕ → ℕ → (ℕ → Option ℤ) → ℕ → List ℕ → ℕ → Type 0
IsTightPath graph l w p u [] v = u ≡ v
IsTightPath graph l w p u (k ∷ ks) v = (e : Edge) × (slice_get graph.edges k ≡ Some e) × (u ≡ e.from) × IsTight graph l w p k × IsTightPath graph l w p e.to ks v

abbrev pub end_in : Option Edge → ℕ
end_in None = 0
end_in (Some e) = e.to

-- the nodes that edges enter, in order
abbrev pub nodes_of : List Edge → List ℕ → List ℕ
nodes_of es [] = []
nodes_of es (k ∷ ks) = end_in (slice_get es k) ∷ nodes_of es ks

-- of two lists the first is the lesser at the first place at which they differ, or they don't
abbrev pub IsNoLater : List ℕ → List ℕ → Type 0
IsNoLater [] bs = Unit {0}
IsNoLater (a ∷ as') [] = ⊥
IsNoLater (a ∷ as') (b ∷ bs) = (a < b) ⊎ ((a ≡ b) × IsNoLater as' bs)

-- the cycle leads along tight edges through the least node that any such cycle has; none through it is shorter, and none as
-- short has a lesser list of nodes
pub record IsChosen (graph : TimedGraph) (l w : ℕ) (p : ℕ → Option ℤ) (cycle : List ℕ) : Type 0 where
  pub node : ℕ
  pub closed : IsTightPath graph l w p node cycle node
  pub some : 1 ≤ length cycle
  pub least_node : (v : ℕ) (ks : List ℕ) → 1 ≤ length ks → IsTightPath graph l w p v ks v → node ≤ v
  pub fewest : (ks : List ℕ) → 1 ≤ length ks → IsTightPath graph l w p node ks node → length cycle ≤ length ks
  pub least : (ks : List ℕ) → length ks ≡ length cycle → IsTightPath graph l w p node ks node → IsNoLater (nodes_of graph.edges cycle) (nodes_of graph.edges ks)
