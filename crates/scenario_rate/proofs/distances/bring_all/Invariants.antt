use Rattle.scenario_rate.specs.inside.Spreading.{AreBrought}
use Rattle.scenario_rate.proofs.distances.bring_all.Given as goal

abbrev pub invariant-loop-number : goal.invariant-loop-number
invariant-loop-number l = AreBrought l.edges l.list l.number-index l.initial.steps l.steps l.initial.queue.items l.queue.items
