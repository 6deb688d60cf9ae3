-- The edges of a list by node.
use Rattle.std.specs.Prelude.{◌≡◌, ℕ, List, [], length, slice_get, slice_index_or, Some}
use Rattle.automaton.specs.declared.graph.Edge.{Edge}
use Rattle.scenario_rate.specs.declared.by_node.End.{End}
use Rattle.scenario_rate.specs.declared.by_node.End.TheVariants.{From, To}
use Rattle.scenario_rate.specs.inside.Choosing.{IsAmong}

-- the node at an end of an edge
abbrev pub node_at : End → Edge → ℕ
node_at From e = e.from
node_at To e = e.to

-- the numbers that are listed at a node
abbrev pub list_at : List (List ℕ) → ℕ → List ℕ
list_at lists v = slice_index_or lists v []

-- by node the numbers of a list whose edges have an end there
pub record AreByNode (end : End) (es : List Edge) (ts : List ℕ) (nodes : ℕ) (lists : List (List ℕ)) : Type 0 where
  pub long : length lists ≡ nodes
  pub each : (v k : ℕ) → IsAmong (list_at lists v) k → IsAmong ts k × ((e : Edge) × (slice_get es k ≡ Some e) × (node_at end e ≡ v))
  pub all : (k : ℕ) (e : Edge) → IsAmong ts k → slice_get es k ≡ Some e → IsAmong (list_at lists (node_at end e)) k
