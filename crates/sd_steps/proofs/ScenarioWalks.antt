-- Steps on the scenarios of a file, one after another.
use Rattle.std.proofs.Common.{◌≡◌, ℕ, ◌+◌, ◌<◌, inl, inr, Option, Some, length, Err, sym, ap, subst, ◌∙◌, arith}
use Rattle.std.specs.Prelude.{slice_get}
use Rattle.std.proofs.lemmas.Bool.{cases_lt}
use Rattle.std.proofs.lemmas.Option.{slice_get_within}
use Rattle.sd_base.specs.declared.tables.ScenarioFile.{ScenarioFile}
use Rattle.sd_base.specs.declared.tables.ScenarioRow.{ScenarioRow}
use Rattle.sd_steps.specs.declared.stop.Stop.{Stop}
use Rattle.sd_steps.specs.declared.stop.Stop.TheVariants as stop
use Rattle.sd_steps.specs.Courses.{Step, deciding}
use Rattle.sd_steps.specs.ScenarioBounds.{ArePassed, bounding_one}
use Rattle.sd_steps.specs.ScenarioSteps.{IsFirstWithout}
use Rattle.sd_steps.specs.Steps.{Does}

-- where the scenarios before one pass a step that it doesn't, it is the first one
pub first_stops : {A B : Type 0} (one : ScenarioRow → Step A) (file : ScenarioFile) (passes : B → Type 0) (i : ℕ) (row : ScenarioRow) (why : Stop)
    → ((s : ℕ) (r : ScenarioRow) → s < i → slice_get file.scenarios s ≡ Some r → (a : A) × (one r).passes a)
    → slice_get file.scenarios i ≡ Some row → Does (one row) (Err why) → Does (deciding passes (IsFirstWithout one file)) (Err why)
first_stops one file passes i row (stop.Refused refusal) before at is = record { place = i; row = row; at = at; is = is; first = before }
first_stops one file passes i row stop.OutOfMemory before at is = tt

module _ (file : ScenarioFile) (tokens : ℕ) where
  -- the scenarios before place i pass their tests
  abbrev pub ArePassedTo : ℕ → Type 0
  ArePassedTo i = (s : ℕ) (row : ScenarioRow) → s < i → slice_get file.scenarios s ≡ Some row → (bounding_one tokens row).passes tt

  pub passed_more : (i : ℕ) (row : ScenarioRow) → ArePassedTo i → slice_get file.scenarios i ≡ Some row → (bounding_one tokens row).passes tt → ArePassedTo (i + 1)
  passed_more i row so_far at passes s r below here = elim (cases_lt s i) [
    | inl before ↦ so_far s r before here
    | inr after ↦
        let last : s ≡ i = omega arith in
        let e : ◌≡◌ {A = Option ScenarioRow} (Some row) (Some r) = sym at ∙ ap (slice_get file.scenarios) (sym last) ∙ here in
        let same : row ≡ r = cc (e) in
        subst (λ (x : ScenarioRow). (bounding_one tokens x).passes tt) same passes
  ]

  pub passed_all : (i : ℕ) → i ≡ length file.scenarios → ArePassedTo i → ArePassed file tokens
  passed_all i whole so_far s row at = so_far s row (subst (λ n. s < n) (sym whole) (slice_get_within file.scenarios s row at)) at
