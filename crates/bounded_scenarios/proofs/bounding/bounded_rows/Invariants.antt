use Rattle.std.proofs.Common.{◌≡◌, map, take}
use Rattle.bounded_scenarios.specs.BoundedFiles.{bounded_scenario}
use Rattle.bounded_scenarios.proofs.bounding.bounded_rows.Given as goal

abbrev pub invariant-loop-scenario : goal.invariant-loop-scenario
invariant-loop-scenario l = l.rows ≡ map (bounded_scenario l.shared l.rooms) (take l.scenario-index l.scenarios)
