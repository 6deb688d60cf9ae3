use Rattle.sd_steps.proofs.ScenarioWalks.{ArePassedTo}
use Rattle.sd_steps.proofs.scenario_bounds.bound_all.Given as goal

abbrev pub invariant-loop-scenario : goal.invariant-loop-scenario
invariant-loop-scenario l = ArePassedTo l.file l.tokens l.scenario-index
