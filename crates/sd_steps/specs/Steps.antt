-- What calls promise of steps.
use Rattle.std.specs.Prelude.{◌≡◌, ℕ, ◌⊎◌, Result, Ok, Err}
use Rattle.sd_io.specs.Outside.{Rose}
use Rattle.sd_steps.specs.declared.stop.Stop.{Stop}
use Rattle.sd_steps.specs.declared.stop.Stop.TheVariants.{Refused, OutOfMemory}
use Rattle.sd_steps.specs.Courses.{Step}

-- a call does a step: it gives what the step passes on, or stops as the step refuses, or for want of memory
abbrev pub Does : {A : Type 0} → Step A → Result A Stop → Type 0
Does step (Ok a) = step.passes a
Does step (Err (Refused refusal)) = step.refuses refusal
Does step (Err OutOfMemory) = Unit {0}

-- the same of a step that takes a file, with the shelf's count of faults
abbrev pub Takes : {A : Type 0} → Step A → Result A Stop → ℕ → ℕ → Type 0
Takes step (Ok a) faults faults' = step.passes a × (faults' ≡ faults)
Takes step (Err (Refused refusal)) faults faults' = (step.refuses refusal × (faults' ≡ faults)) ⊎ (step.fails refusal × Rose faults faults')
Takes step (Err OutOfMemory) faults faults' = faults' ≡ faults
