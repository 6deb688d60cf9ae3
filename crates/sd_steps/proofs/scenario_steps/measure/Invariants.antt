use Rattle.sd_steps.proofs.ScenariosAreMeasured.{AreKeptSoFar}
use Rattle.sd_steps.proofs.scenario_steps.measure.Given as goal

abbrev pub invariant-loop-scenario : goal.invariant-loop-scenario
invariant-loop-scenario l = AreKeptSoFar l.file l.matrices l.scenario-index
