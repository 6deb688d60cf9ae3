-- Steps that are made of steps.
use Rattle.std.proofs.Common.{◌≡◌, ℕ, inl, inr, Result, Ok, Err, subst}
use Rattle.sd_steps.specs.declared.stop.Stop.{Stop}
use Rattle.sd_steps.specs.declared.stop.Stop.TheVariants as stop
use Rattle.sd_steps.specs.Courses.{Step, through}
use Rattle.sd_steps.specs.Steps.{Does, Takes}

module _ {A B : Type 0} (step : Step A) (next : A → Step B) where
  -- the first step stops, or goes on to the second
  pub through_stops : (why : Stop) → Does step (Err why) → Does (through step next) (Err why)
  through_stops (stop.Refused refusal) is = inl is
  through_stops stop.OutOfMemory is = tt

  -- the same where the first step takes a file
  pub taking_through : (why : Stop) (faults faults' : ℕ) → Takes step (Err why) faults faults' → Takes (through step next) (Err why) faults faults'
  taking_through (stop.Refused refusal) faults faults' (inl (is, same)) = inl (inl is, same)
  taking_through (stop.Refused refusal) faults faults' (inr (is, rose)) = inr (inl is, rose)
  taking_through stop.OutOfMemory faults faults' same = same

  pub taken_through : (a shown : A) (result : Result B Stop) (faults faults' : ℕ) → step.passes a × (faults' ≡ faults) → shown ≡ a → Does (next shown) result → Takes (through step next) result faults faults'
  taken_through a shown result faults faults' took same does = go result (subst (λ (x : A). Does (next x) result) same does)
    where
      go : (r : Result B Stop) → Does (next a) r → Takes (through step next) r faults faults'
      go (Ok b) is = ((a, took.0, is), took.1)
      go (Err (stop.Refused refusal)) is = inl (inr (a, took.0, is), took.1)
      go (Err stop.OutOfMemory) is = took.1

  pub through_on : (a : A) (result : Result B Stop) → step.passes a → Does (next a) result → Does (through step next) result
  through_on a (Ok b) is does = (a, is, does)
  through_on a (Err (stop.Refused refusal)) is does = inr (a, is, does)
  through_on a (Err stop.OutOfMemory) is does = tt
