use Rattle.scenario_rate.specs.inside.Searches.{DifferBelow}
use Rattle.scenario_rate.proofs.repeat.first_return.Given as goal

abbrev pub invariant-loop-end : goal.invariant-loop-end
invariant-loop-end l = DifferBelow l.edges l.walk l.last l.end
