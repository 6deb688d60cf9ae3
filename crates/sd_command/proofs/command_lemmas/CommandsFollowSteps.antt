-- From what steps do to how a command goes.
use Rattle.std.proofs.Common.{◌≡◌, ℕ, List, Result, Err, refl, subst, inl, inr}
use Rattle.sd_io.specs.Outside.{Files}
use Rattle.sd_steps.specs.declared.answer.Answer.{Answer}
use Rattle.sd_steps.specs.declared.stop.Stop.{Stop}
use Rattle.sd_steps.specs.declared.stop.Stop.TheVariants as stop
use Rattle.sd_steps.specs.Courses.{Step, Ending, Refused, Failed, Lacking, After, refused, failed, lacking, passed, Counted}
use Rattle.sd_steps.specs.Steps.{Does, Takes}
use Rattle.sd_command.specs.inside.Goings.{Goes}

module _ {A : Type 0} (step : Step A) (next : A → Ending → ℕ → Type 0) (n : ℕ) (none : n ≡ 0) where
  -- a step stops
  pub step_stops : (why : Stop) (faults : ℕ) → Does step (Err why) → Goes (After step next) (Err why) n faults faults
  step_stops (stop.Refused refusal) faults is = record { ending = Refused refusal; is = refl; came = refused refusal is refl none; counted = refl }
  step_stops stop.OutOfMemory faults is = record { ending = Lacking; is = refl; came = lacking refl none; counted = refl }

  -- one that takes a file does
  pub taking_stops : (why : Stop) (faults faults' : ℕ) → Takes step (Err why) faults faults' → Goes (After step next) (Err why) n faults faults'
  taking_stops (stop.Refused refusal) faults faults' (inl (is, same)) = record { ending = Refused refusal; is = refl; came = refused refusal is refl none; counted = same }
  taking_stops (stop.Refused refusal) faults faults' (inr (is, rose)) = record { ending = Failed refusal; is = refl; came = failed refusal is refl none; counted = rose }
  taking_stops stop.OutOfMemory faults faults' same = record { ending = Lacking; is = refl; came = lacking refl none; counted = same }

-- after a step that passes a value on, the command goes as what follows
pub goes_on : {A : Type 0} (step : Step A) (next : A → Ending → ℕ → Type 0) (a : A) (result : Result Answer Stop) (n faults faults' : ℕ) → step.passes a
    → Goes (next a) result n faults faults' → Goes (After step next) result n faults faults'
goes_on step next a result n faults faults' is goes = record { ending = goes.ending; is = goes.is; came = passed a is goes.came; counted = goes.counted }

-- the file that a step takes is there, and the command goes as what follows
pub taken_on : {A : Type 0} (step : Step A) (next : A → Ending → ℕ → Type 0) (a : A) (result : Result Answer Stop) (n faults middle faults' : ℕ) → step.passes a × (middle ≡ faults)
    → Goes (next a) result n middle faults' → Goes (After step next) result n faults faults'
taken_on step next a result n faults middle faults' took goes =
    record { ending = goes.ending; is = goes.is; came = passed a took.0 goes.came; counted = subst (λ (f : ℕ). Counted goes.ending f faults') took.1 goes.counted }

-- what a step takes from files it takes from the same files
pub takes_after : {A : Type 0} (before after : Files) → after ≡ before → (step : Files → Step A) (result : Result A Stop)
    (faults faults' : ℕ) → Takes (step after) result faults faults' → Takes (step before) result faults faults'
takes_after before after same step result faults faults' = subst (λ (files : Files). Takes (step files) result faults faults') same

-- what a command does with bytes it does with the same bytes
pub same_bytes : (command : List ℕ → Ending → ℕ → Type 0) (bytes shown : List ℕ) (result : Result Answer Stop) (n faults faults' : ℕ) → shown ≡ bytes
    → Goes (command shown) result n faults faults' → Goes (command bytes) result n faults faults'
same_bytes command bytes shown result n faults faults' same goes = subst (λ (b : List ℕ). Goes (command b) result n faults faults') same goes

-- what a step takes by a name it takes by the same name
pub same_name : {A : Type 0} (step : List ℕ → Step A) (name shown : List ℕ) (result : Result A Stop) (faults faults' : ℕ) → shown ≡ name → Takes (step shown) result faults faults' → Takes (step name) result faults faults'
same_name step name shown result faults faults' same takes = subst (λ (n : List ℕ). Takes (step n) result faults faults') same takes

-- what a command does with a value it does with the same value
pub same_value : {A : Type 0} (command : A → Ending → ℕ → Type 0) (a shown : A) (result : Result Answer Stop) (n faults faults' : ℕ) → shown ≡ a
    → Goes (command shown) result n faults faults' → Goes (command a) result n faults faults'
same_value {A} command a shown result n faults faults' same goes = subst (λ (x : A). Goes (command x) result n faults faults') same goes
