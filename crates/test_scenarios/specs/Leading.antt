-- Timed graphs in which an edge that takes time leads on from each node.
use Rattle.std.specs.Prelude.{◌≡◌, ℕ, ◌*◌, ◌≤◌, ◌<◌, List, slice_get, Some}
use Rattle.sd_base.specs.declared.limits.TheConstants.{ROUND, TIME}
use Rattle.automaton.specs.declared.graph.Edge.{Edge}

-- an edge that takes time begins at the node
abbrev pub LeadsFrom : List Edge → ℕ → Type 0
LeadsFrom es v = (k : ℕ) × (e : Edge) × (slice_get es k ≡ Some e) × (e.from ≡ v) × (1 ≤ e.weight)

-- the edge joins two of the first n nodes, and is no heavier than the time of the greatest round
pub record IsInside (n : ℕ) (e : Edge) : Type 0 where
  pub from : e.from < n
  pub to : e.to < n
  pub light : e.weight ≤ TIME * ROUND
