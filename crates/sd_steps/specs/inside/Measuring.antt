-- What a function promises of the matrices of a file's scenarios.
use Rattle.std.specs.Prelude.{List, Result, Ok, Err}
use Rattle.sd_base.specs.declared.tables.ScenarioFile.{ScenarioFile}
use Rattle.automaton.specs.TimedGraphs.{AreKept}
use Rattle.sd_steps.specs.declared.stop.Stop.{Stop}
use Rattle.sd_steps.specs.ScenarioSteps.{Entries, AreMeasured, measuring}
use Rattle.sd_steps.specs.Steps.{Does}

-- each scenario is measured, and of the matrices those that states need are kept; or the step stops
abbrev pub Measures : ScenarioFile → Result (List Entries) Stop → Type 0
Measures file (Ok kept) = (all : List Entries) × AreMeasured file all × AreKept file all kept
Measures file (Err why) = Does (measuring file) (Err why)
