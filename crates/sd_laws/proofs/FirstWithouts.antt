-- Of steps on the scenarios of a file that each determine, one refusal is the first.
use Rattle.std.proofs.Common.{◌≡◌, ℕ, ◌<◌, inl, inr, Some, sym, subst, arith}
use Rattle.std.proofs.lemmas.Bool.{cases_lt}
use Rattle.std.specs.Prelude.{slice_get}
use Rattle.sd_base.specs.declared.tables.ScenarioFile.{ScenarioFile}
use Rattle.sd_base.specs.declared.tables.ScenarioRow.{ScenarioRow}
use Rattle.sd_base.proofs.ByteTestsDecide.{one-some}
use Rattle.report.specs.declared.refusal.Refusal.{Refusal}
use Rattle.sd_steps.specs.Courses.{Step}
use Rattle.sd_steps.specs.ScenarioSteps.{IsFirstWithout}
use Rattle.sd_laws.proofs.CommandsDecide.{Determines}

module _ {A : Type 0} (one : ScenarioRow → Step A) (file : ScenarioFile) (each : (s : ℕ) (row : ScenarioRow) → slice_get file.scenarios s ≡ Some row → Determines (one row)) where
  -- a scenario that is refused is no later than another one that is
  no_earlier : (r s : Refusal) (is : IsFirstWithout one file r) (also : IsFirstWithout one file s) → is.place < also.place → ⊥
  no_earlier r s is also before =
      let passed = also.first is.place is.row before is.at in
      (each is.place is.row is.at).never r passed.0 is.is passed.1

  pub one_first : (r s : Refusal) → IsFirstWithout one file r → IsFirstWithout one file s → r ≡ s
  one_first r s is also = elim (cases_lt is.place also.place) [
    | inl before ↦ absurd (no_earlier r s is also before)
    | inr not_before ↦ elim (cases_lt also.place is.place) [
      | inl before ↦ absurd (no_earlier s r also is before)
      | inr not_after ↦
          let same : is.place ≡ also.place = omega arith in
          let row : also.row ≡ is.row = one-some (slice_get file.scenarios is.place) also.row is.row (subst (λ k. slice_get file.scenarios k ≡ Some also.row) (sym same) also.at) is.at in
          (each is.place is.row is.at).refusal r s is.is (subst (λ x. (one x).refuses s) row also.is)
    ]
  ]
