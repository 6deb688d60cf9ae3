-- Marks of nodes while those that are reachable are looked for.
use Rattle.std.specs.Prelude.{◌≡◌, ℕ, suc, ◌*◌, ◌<◌, ◌↔◌, Bool, true, false, List, [], ◌∷◌, length, slice_get, slice_index_or, Some}
use Rattle.automaton.specs.declared.graph.Edge.{Edge}
use Rattle.automaton.specs.declared.graph.TimedGraph.{TimedGraph}
use Rattle.automaton.specs.CriticalCycles.{IsReachedNode, IsStart}

abbrev pub mark_at : List Bool → ℕ → Bool
mark_at marks v = slice_index_or marks v false

-- how many nodes aren't marked
unfoldable pub unmarked : List Bool → ℕ
unmarked [] = 0
unmarked (true ∷ ms) = unmarked ms
unmarked (false ∷ ms) = suc (unmarked ms)

-- how many more passes may mark one
abbrev pub left_of : Bool → List Bool → ℕ
left_of true marks = suc (unmarked marks)
left_of false marks = unmarked marks

-- what is marked can be reached
abbrev pub AreSoundMarks : TimedGraph → List Bool → Type 0
AreSoundMarks graph marks = (v : ℕ) → mark_at marks v ≡ true → IsReachedNode graph v

-- edge k doesn't lead from a marked node to another one
abbrev pub IsKept : List Edge → ℕ → List Bool → Type 0
IsKept es k marks = (e : Edge) → slice_get es k ≡ Some e → mark_at marks e.from ≡ true → mark_at marks e.to ≡ true

-- nor does any edge with a number below n
abbrev pub AreKept : List Edge → ℕ → List Bool → Type 0
AreKept es n marks = (k : ℕ) → k < n → IsKept es k marks

abbrev pub HasStarts : TimedGraph → List Bool → Type 0
HasStarts graph marks = (v : ℕ) → IsStart graph v → mark_at marks v ≡ true

-- just the reachable nodes are marked
pub record AreReached (graph : TimedGraph) (marks : List Bool) : Type 0 where
  pub size : length marks ≡ graph.states * graph.tokens
  pub exact : (v : ℕ) → mark_at marks v ≡ true ↔ IsReachedNode graph v
