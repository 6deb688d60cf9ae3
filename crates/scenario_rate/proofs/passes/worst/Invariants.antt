use Rattle.scenario_rate.specs.inside.Bests.{IsBest}
use Rattle.scenario_rate.proofs.RatesStopFalling.{room}
use Rattle.scenario_rate.proofs.passes.worst.Given as goal

abbrev pub invariant-passes : goal.invariant-passes
invariant-passes l = IsBest l.graph l.best

abbrev pub decreases-passes : goal.decreases-passes
decreases-passes l = room l.best.rate.num l.best.rate.den
