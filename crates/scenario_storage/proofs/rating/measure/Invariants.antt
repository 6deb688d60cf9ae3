use Rattle.scenario_storage.proofs.MatricesAreMeasured.{AreKeptTo}
use Rattle.scenario_storage.proofs.rating.measure.Given as goal

abbrev pub invariant-loop-scenario : goal.invariant-loop-scenario
invariant-loop-scenario l = AreKeptTo l.plan.file.now l.plan.gammas.now l.capacities.capacities l.scenario l.matrices.items
