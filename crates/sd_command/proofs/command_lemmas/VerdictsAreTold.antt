-- How the verdict on a certificate is told.
use Rattle.std.proofs.Common.{ℕ, Result, Ok, Err, refl, subst}
use Rattle.cert_checker.specs.declared.verdict.Claim.{Claim}
use Rattle.cert_checker.specs.declared.verdict.Reason.{Reason}
use Rattle.cert_checker.specs.declared.verdict.Verdict.{Verdict}
use Rattle.cert_checker.specs.Verdicts.{IsVerdict}
use Rattle.sd_steps.specs.declared.answer.Answer.{Answer}
use Rattle.sd_steps.specs.declared.stop.Stop.{Stop}
use Rattle.sd_steps.specs.declared.stop.Stop.TheVariants as stop
use Rattle.sd_steps.specs.Judgings.{judging}
use Rattle.sd_steps.specs.Courses.{Answered, Refused, Lacking, ends_by}
use Rattle.sd_command.specs.inside.Goings.{Goes}
use Rattle.sd_steps.specs.Judgings.{Tells}

module _ (faulty : ℕ → Reason → Type 0) (holds : Claim → Type 0) where
  -- a verdict that is told
  pub verdict_goes : (v : Verdict) (result : Result Answer Stop) (faults : ℕ) → IsVerdict faulty holds v → Tells v result → Goes (ends_by (judging faulty holds)) result 0 faults faults
  verdict_goes v (Ok answer) faults is tells = record {
    ending = Answered answer;
    is = refl;
    came =
        let accepted = subst (λ (x : Verdict). IsVerdict faulty holds x) tells.1 is in
        (refl, record { valid = accepted.0; claim = tells.0; is = accepted.1; text = tells.2; put = tells.3 });
    counted = refl;
  }
  verdict_goes v (Err (stop.Refused refusal)) faults is tells = record {
    ending = Refused refusal;
    is = refl;
    came = (refl, record { line = tells.0; reason = tells.1; first = subst (λ (x : Verdict). IsVerdict faulty holds x) tells.2 is; told = tells.3 });
    counted = refl;
  }
  verdict_goes v (Err stop.OutOfMemory) faults is tells = record { ending = Lacking; is = refl; came = refl; counted = refl }
