-- The words and files decide the steps on certificates, and the verdict.
use Rattle.std.proofs.Common.{◌≡◌, ℕ, ◌≤◌, ◌<◌, ◌⊎◌, inl, inr, List, Result, Ok, Err, refl, sym, ap, ap₂, ◌∙◌, arith, IsSome}
use Rattle.std.specs.Prelude.{◌==◌, if◌then◌else◌}
use Rattle.cert_text.specs.declared.certificates.Certificate.{Certificate}
use Rattle.cert_text.specs.declared.error.CertError.{CertError}
use Rattle.cert_text.specs.Reading.{reading_of}
use Rattle.cert_checker.specs.declared.verdict.Claim.{Claim}
use Rattle.cert_checker.specs.declared.verdict.Reason.{Reason}
use Rattle.cert_checker.specs.declared.verdict.Reason.TheVariants as reasons
use Rattle.cert_checker.specs.Verdicts.{IsFirst, rank_of}
use Rattle.report.specs.declared.refusal.Refusal.{Refusal}
use Rattle.report.specs.declared.refusal.Refusal.TheVariants.{Rejected}
use Rattle.sd_io.specs.Outside.{Files}
use Rattle.sd_steps.specs.declared.file_kind.FileKind.{FileKind}
use Rattle.sd_steps.specs.declared.file_kind.FileKind.TheVariants as kinds
use Rattle.sd_steps.specs.Takings.{taking}
use Rattle.sd_steps.specs.CertificateReadings.{certificate_refusal, opening_certificate, reading_certificate}
use Rattle.sd_steps.specs.Certifyings.{certifying}
use Rattle.sd_steps.specs.Judgings.{IsRejected, judging, reason_word}
use Rattle.sd_laws.proofs.CommandsDecide.{Determines, DecidesLast, through_determines}
use Rattle.sd_laws.proofs.SharedSteps.{taking_determines}

-- what a reading gives
abbrev Reading : Type 0
Reading = Result (ℕ × Certificate) CertError

one_read : (r : Reading) (a b : ℕ × Certificate) → r ≡ Ok a → r ≡ Ok b → a ≡ b
one_read r a b p q = let e : ◌≡◌ {A = Reading} (Ok a) (Ok b) = sym p ∙ q in (cc)

one_error : (r : Reading) (a b : CertError) → r ≡ Err a → r ≡ Err b → a ≡ b
one_error r a b p q = let e : ◌≡◌ {A = Reading} (Err a) (Err b) = sym p ∙ q in (cc)

no_error : (r : Reading) (a : CertError) (b : ℕ × Certificate) → r ≡ Err a → r ≡ Ok b → ⊥
no_error r a b p q = let e : ◌≡◌ {A = Reading} (Err a) (Ok b) = sym p ∙ q in (cc)

pub reading_certificate_determines : (bytes : List ℕ) → Determines (reading_certificate bytes)
reading_certificate_determines bytes = record {
  one = λ a b is also. one_read (reading_of bytes) a b is also;
  refusal = λ r s is also. is.told ∙ ap (λ (e : CertError). certificate_refusal e) (one_error (reading_of bytes) is.error also.error is.first also.first) ∙ sym also.told;
  never = λ r a is read. no_error (reading_of bytes) is.error a is.first read;
}

pub opening_certificate_determines : (shelf : Files) → IsSome shelf → (name : List ℕ) → Determines (opening_certificate shelf name)
opening_certificate_determines shelf tells name =
    through_determines (taking shelf kinds.Certificate name) (λ bytes. reading_certificate bytes) (taking_determines shelf tells kinds.Certificate name) (λ bytes taken. reading_certificate_determines bytes)

pub certifying_determines : (kind : FileKind) (name : List ℕ) (c : Certificate) → Determines (certifying kind name c)
certifying_determines kind name c = record {
  one = λ p q is also. is.1 ∙ sym also.1;
  refusal = λ r s is also. is.1 ∙ sym also.1;
  never = λ r p is put. omega (arith, is.0, put.0);
}

-- ---- the verdict

-- the reason of a rank
ranked : ℕ → Reason
ranked n =
    if n == 0 then reasons.Connection else
    if n == 1 then reasons.Buffers else
    if n == 2 then reasons.Rate else
    if n == 3 then reasons.Schedule else
    if n == 4 then reasons.Cycle else
    if n == 5 then reasons.Limit else
    if n == 6 then reasons.Member else
    if n == 7 then reasons.Blocked else
    if n == 8 then reasons.Closure else
    if n == 9 then reasons.Point else
    if n == 10 then reasons.Node else
    reasons.Potential

of_rank : (r : Reason) → ranked (rank_of r) ≡ r
unfolding ranked
of_rank reasons.Connection = refl
of_rank reasons.Buffers = refl
of_rank reasons.Rate = refl
of_rank reasons.Schedule = refl
of_rank reasons.Cycle = refl
of_rank reasons.Limit = refl
of_rank reasons.Member = refl
of_rank reasons.Blocked = refl
of_rank reasons.Closure = refl
of_rank reasons.Point = refl
of_rank reasons.Node = refl
of_rank reasons.Potential = refl

-- no later than another one, and that no later than it
both : (line l m n : ℕ) → (line < l) ⊎ ((line ≡ l) × (m ≤ n)) → (l < line) ⊎ ((l ≡ line) × (n ≤ m)) → (line ≡ l) × (m ≡ n)
both line l m n (inl less) (inl more) = absurd (omega (arith, less, more))
both line l m n (inl less) (inr more) = let same = more.0 in absurd (omega (arith, less, same))
both line l m n (inr same) (inl more) = let is = same.0 in absurd (omega (arith, is, more))
both line l m n (inr same) (inr also) = let p = same.1 in let q = also.1 in (same.0, omega (arith, p, q))

module _ (faulty : ℕ → Reason → Type 0) (holds : Claim → Type 0) where
  -- the first fault is one
  one_first : (line l : ℕ) (reason r : Reason) → IsFirst faulty line reason → IsFirst faulty l r → (line ≡ l) × (reason ≡ r)
  one_first line l reason r first other =
      let same = both line l (rank_of reason) (rank_of r) (first.least l r other.is) (other.least line reason first.is) in
      (same.0, sym (of_rank reason) ∙ ap ranked same.1 ∙ of_rank r)

  one_rejected : (r s : Refusal) → IsRejected faulty r → IsRejected faulty s → s ≡ r
  one_rejected r s is also =
      let same = one_first also.line is.line also.reason is.reason also.first is.first in
      also.told ∙ ap₂ (λ (l : ℕ) (w : Reason). Rejected l (reason_word w)) same.0 same.1 ∙ sym is.told

  pub judging_decides : DecidesLast (judging faulty holds)
  judging_decides = record {
    one = λ r s n m is also. (one_rejected r s is.1 also.1, also.0 ∙ sym is.0);
    no_answer = λ r answer n m is also. also.1.valid is.1.line is.1.reason is.1.first.is;
    no_end = λ r s n m is also. also;
  }
