use Rattle.std.proofs.Common.{◌≡◌, [], replicate}
use Rattle.scenario_rate.proofs.by_node.no_edges.Given as goal

abbrev pub invariant-loop : goal.invariant-loop
invariant-loop l = l.lists.items ≡ replicate l.counter []
