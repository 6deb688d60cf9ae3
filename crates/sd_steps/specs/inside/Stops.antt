-- What calls promise of what a scenario's graph stops for.
use Rattle.std.specs.Prelude.{◌≡◌, ℕ, List}
use Rattle.sd_steps.specs.declared.stop.Stop.{Stop}
use Rattle.sd_steps.specs.declared.stop.Stop.TheVariants.{Refused, OutOfMemory}
use Rattle.sd_steps.specs.ScenarioSteps.{of_scenario}

-- a stop of a scenario's graph, as that of the scenario of this printed name
abbrev pub IsStopOf : List ℕ → Stop → Stop → Type 0
IsStopOf name (Refused refusal) (Refused told) = told ≡ of_scenario name refusal
IsStopOf name OutOfMemory (Refused told) = ⊥
IsStopOf name stop OutOfMemory = Unit {0}
