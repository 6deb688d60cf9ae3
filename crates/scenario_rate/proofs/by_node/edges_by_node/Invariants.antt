use Rattle.std.proofs.Common.{take}
use Rattle.scenario_rate.specs.inside.ByNode.{AreByNode}
use Rattle.scenario_rate.proofs.by_node.edges_by_node.Given as goal

abbrev pub invariant-loop-number : goal.invariant-loop-number
invariant-loop-number l = AreByNode l.end l.edges (take l.number-index l.list) l.nodes l.lists.items
