-- Lines as verdicts tell them.
use Rattle.std.proofs.Common.{◌≡◌, ℕ, ◌^◌, ◌<◌, ◌≤◌, inl, inr, refl, sym, subst, Result, Ok, Err, IfOk, arith}
use Rattle.std.proofs.lemmas.Bool.{cases_lt}
use Rattle.sd_base.specs.Net.{Net}
use Rattle.cert_text.specs.declared.certificates.StorageCertificate.{StorageCertificate}
use Rattle.cert_checker.specs.declared.verdict.Claim.{Claim}
use Rattle.cert_checker.specs.declared.verdict.Reason.{Reason}
use Rattle.cert_checker.specs.declared.verdict.Verdict.{Verdict}
use Rattle.cert_checker.specs.declared.verdict.Verdict.TheVariants.{Accepted, Rejected}
use Rattle.cert_checker.specs.Verdicts.{IsFirst, IsToldAs, IsToldVerdict, IsVerdict}
use Rattle.cert_checker.specs.StorageLines.{end_line}
use Rattle.cert_checker.specs.StorageFaults.{IsTradeOffFault, incident, limit, corner, of_member, covered, of_point}
use Rattle.cert_checker.specs.inside.FirstFaults.{kept_number}
use Rattle.cert_checker.proofs.StorageFirsts.{member-inside, member-place, point-inside, point-place}

told-as : (line n : ℕ) → n ≡ kept_number line → IsToldAs line n
told-as line n is = elim (cases_lt line (2 ^ 64)) [
  | inl below ↦ inl (omega (arith, is, below))
  | inr past ↦ inr (omega (arith, is, past), past)
]

module _ (F : ℕ → Reason → Type 0) (shown : Claim → Type 0) where
  -- a fault by its line as it is told
  pub told-first : (line n : ℕ) (reason : Reason) → IsFirst F line reason → n ≡ kept_number line → IsToldVerdict F shown (Rejected n reason)
  told-first line n reason first is = (line, first, told-as line n is)

  pub told-verdict : (v : Verdict) → IsVerdict F shown v → IsToldVerdict F shown v
  told-verdict (Accepted claim) is = is
  told-verdict (Rejected n reason) is = (n, is, inl refl)

  -- where no line has a greater number, each is told by its own
  pub exact : (v : Verdict) → ((l : ℕ) (r : Reason) → F l r → l < 2 ^ 64) → IsToldVerdict F shown v → IsVerdict F shown v
  exact (Accepted claim) few is = is
  exact (Rejected n reason) few (line, first, inl same) = subst (λ (l : ℕ). IsFirst F l reason) (sym same) first
  exact (Rejected n reason) few (line, first, inr past) = absurd (let below = few line reason first.is in omega (arith, below, past.1))

-- a faulty line is one of the certificate's
pub fault-inside : (net : Net) (version : ℕ) (c : StorageCertificate) (l : ℕ) (r : Reason) → IsTradeOffFault net version c l r → l ≤ end_line version c
fault-inside net version c l r (incident h il ir) = omega (arith, il)
fault-inside net version c l r (limit h il ir) = omega (arith, il)
fault-inside net version c l r (corner h il ir) = omega (arith, il)
fault-inside net version c l r (of_member i place low fault il) = omega (arith, il, member-place net version c i place r fault, member-inside version c i low)
fault-inside net version c l r (covered h il ir) = omega (arith, il)
fault-inside net version c l r (of_point i place low fault il) = omega (arith, il, point-place net c i place r fault, point-inside version c i low)

-- what holds of each answer
pub if-ok : {E : Type 0} → (P Q : Verdict → Type 0) → ((v : Verdict) → P v → Q v) → (r : Result Verdict E) → IfOk r P → IfOk r Q
if-ok P Q more (Ok v) is = more v is
if-ok P Q more (Err e) is = is
