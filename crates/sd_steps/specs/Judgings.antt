-- The verdict on a certificate, as it is told.
use Rattle.std.specs.Prelude.{◌≡◌, ℕ, List, Result, Ok, Err, codes, None}
use Rattle.cert_checker.specs.declared.verdict.Claim.{Claim}
use Rattle.cert_checker.specs.declared.verdict.Claim.TheVariants as claims
use Rattle.cert_checker.specs.declared.verdict.Reason.{Reason}
use Rattle.cert_checker.specs.declared.verdict.Reason.TheVariants as reasons
use Rattle.cert_checker.specs.declared.verdict.Verdict.{Verdict}
use Rattle.cert_checker.specs.declared.verdict.Verdict.TheVariants as verdicts
use Rattle.cert_checker.specs.Verdicts.{IsFirst}
use Rattle.report.specs.declared.refusal.Refusal.{Refusal}
use Rattle.report.specs.declared.refusal.Refusal.TheVariants.{Rejected}
use Rattle.report.specs.declared.claims.ClaimLine.{ClaimLine}
use Rattle.report.specs.declared.claims.ClaimLine.TheVariants as shown
use Rattle.report.specs.ClaimTexts.{claim_line}
use Rattle.sd_steps.specs.declared.answer.Answer.{Answer}
use Rattle.sd_steps.specs.declared.stop.Stop.{Stop}
use Rattle.sd_steps.specs.declared.stop.Stop.TheVariants.{Refused, OutOfMemory}
use Rattle.sd_steps.specs.Courses.{Analysis}

-- the word for what is wrong in a line of a certificate
unfoldable pub reason_word : Reason → List ℕ
reason_word reasons.Connection = codes "connection"
reason_word reasons.Buffers = codes "buffers"
reason_word reasons.Rate = codes "rate"
reason_word reasons.Schedule = codes "schedule"
reason_word reasons.Cycle = codes "cycle"
reason_word reasons.Limit = codes "limit"
reason_word reasons.Member = codes "member"
reason_word reasons.Blocked = codes "blocked"
reason_word reasons.Closure = codes "closure"
reason_word reasons.Point = codes "point"
reason_word reasons.Node = codes "node"
reason_word reasons.Potential = codes "potential"

-- how a line tells what an accepted certificate shows
abbrev pub claim_shown : Claim → ClaimLine
claim_shown (claims.Rate x) = shown.Rate x
claim_shown (claims.Points number limit) = shown.Points number limit
claim_shown (claims.Worst x) = shown.Worst x

-- no line of a certificate is faulty, what it claims is so, and that is told
pub record IsAccepted (faulty : ℕ → Reason → Type 0) (holds : Claim → Type 0) (answer : Answer) : Type 0 where
  pub valid : (line : ℕ) (reason : Reason) → faulty line reason → ⊥
  pub claim : Claim
  pub is : holds claim
  pub text : answer.text ≡ claim_line (claim_shown claim)
  pub put : answer.put ≡ None

-- its first faulty line is told
pub record IsRejected (faulty : ℕ → Reason → Type 0) (refusal : Refusal) : Type 0 where
  pub line : ℕ
  pub reason : Reason
  pub first : IsFirst faulty line reason
  pub told : refusal ≡ Rejected line (reason_word reason)

-- the verdict on a certificate of these faults and claims; nothing is executed
abbrev pub judging : (ℕ → Reason → Type 0) → (Claim → Type 0) → Analysis
judging faulty holds = record {
  answered = λ answer n. (n ≡ 0) × IsAccepted faulty holds answer;
  refused = λ refusal n. (n ≡ 0) × IsRejected faulty refusal;
  ended = λ refusal n. ⊥;
  counted = λ n. n ≡ 0;
}

-- an accepted certificate is told with its claim, and a rejected one is refused with its line and reason
abbrev pub Tells : Verdict → Result Answer Stop → Type 0
Tells verdict (Ok answer) = (claim : Claim) × (verdict ≡ verdicts.Accepted claim) × (answer.text ≡ claim_line (claim_shown claim)) × (answer.put ≡ None)
Tells verdict (Err (Refused refusal)) = (line : ℕ) × (reason : Reason) × (verdict ≡ verdicts.Rejected line reason) × (refusal ≡ Rejected line (reason_word reason))
Tells verdict (Err OutOfMemory) = Unit {0}
