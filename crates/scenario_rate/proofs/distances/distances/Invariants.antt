use Rattle.std.proofs.Common.{◌≡◌, ◌+◌, ◌<◌, ℕ, List, length}
use Rattle.scenario_rate.specs.declared.by_node.End.TheVariants.{To}
use Rattle.scenario_rate.specs.inside.ByNode.{AreByNode}
use Rattle.scenario_rate.specs.inside.Choosing.{IsAmong}
use Rattle.scenario_rate.specs.inside.Spreading.{room, IsSpread}
use Rattle.scenario_rate.proofs.distances.distances.Given as goal

abbrev pub invariant-nodes : goal.invariant-nodes
invariant-nodes l = record {
  long : length l.steps.items ≡ length l.into;
  inside : (v : ℕ) → IsAmong l.queue.items v → v < length l.into;
  spread : (list : List ℕ) → AreByNode To l.edges list (length l.into) l.into → IsSpread l.edges list (length l.into) l.root l.steps.items l.queue.items;
}

-- each node that comes into the queue has fallen
abbrev pub decreases-nodes : goal.decreases-nodes
decreases-nodes l = room l.steps.items + length l.queue.items
