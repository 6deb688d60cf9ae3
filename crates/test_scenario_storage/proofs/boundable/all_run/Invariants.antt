use Rattle.sd_base.specs.declared.tables.ScenarioRow.{ScenarioRow}
use Rattle.test_scenario_storage.specs.Running.{Runs}
use Rattle.test_scenario_storage.proofs.TestsHoldForAll.{HoldsTo}
use Rattle.test_scenario_storage.proofs.boundable.all_run.Given as goal

abbrev pub invariant-loop-scenario : goal.invariant-loop-scenario
invariant-loop-scenario l = HoldsTo (λ (row : ScenarioRow). Runs l.tokens row.graph) l.file.scenarios l.scenario-index
