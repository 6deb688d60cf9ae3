use Rattle.scenario_rate.specs.inside.Choosing.{AreTight}
use Rattle.scenario_rate.proofs.tight.tight_edges.Given as goal

abbrev pub invariant-loop-number : goal.invariant-loop-number
invariant-loop-number l = AreTight l.edges l.row l.rounds l.time l.number l.tight.items
