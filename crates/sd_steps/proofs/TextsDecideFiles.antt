-- The file of a certificate, by how its text was written.
use Rattle.std.proofs.Common.{◌≡◌, ℕ, ◌≤◌, ◌<◌, ◌⊎◌, List, length, Result, Ok, Err, None, refl, sym, subst, inl, inr}
use Rattle.std.specs.Prelude.{IfOk, IfErr, OnOk}
use Rattle.sd_base.specs.declared.limits.Quantity.TheVariants as quantities
use Rattle.sd_base.specs.Limits.{greatest_of}
use Rattle.cert_text.specs.declared.certificates.Certificate.{Certificate}
use Rattle.cert_text.specs.declared.error.CertError.{CertError}
use Rattle.cert_text.specs.declared.error.CertError.TheVariants as errors
use Rattle.cert_text.specs.Reading.{IsCertText}
use Rattle.report.specs.declared.refusal.Refusal.{Refusal}
use Rattle.report.specs.declared.refusal.Refusal.TheVariants.{Above}
use Rattle.report.specs.QuantityWords.{quantity_text}
use Rattle.sd_steps.specs.declared.answer.Put.{Put}
use Rattle.sd_steps.specs.declared.file_kind.FileKind.{FileKind}
use Rattle.sd_steps.specs.declared.stop.Stop.{Stop}
use Rattle.sd_steps.specs.Certifyings.{certifying, text_of}
use Rattle.sd_steps.specs.Steps.{Does}
use Rattle.sd_steps.specs.inside.Filings.{IsFiled}

module _ (kind : FileKind) (name : List ℕ) (c : Certificate) (too_long : Refusal) (most : ℕ) (greatest : most ≡ greatest_of quantities.CertificateBytes)
    (told : too_long ≡ Above None (quantity_text quantities.CertificateBytes) (greatest_of quantities.CertificateBytes)) where
  abbrev does : Result Put Stop → Type 0
  does = Does (certifying kind name c)

  pub filed_does : (written : Result (List ℕ) CertError) (result : Result Put Stop) → IfOk written (λ t. t ≡ text_of c) → IfOk written (λ t. IsCertText t 2 c) → OnOk written (length (text_of c) ≤ most)
      → IfErr written (λ e. (e ≡ errors.NoMemory) ⊎ ((e ≡ errors.TooLong) × (most < length (text_of c)))) → IsFiled kind name written too_long result → does result
  filed_does (Ok bytes) result text read short long is =
      subst does (sym is) (subst (λ (n : ℕ). length (text_of c) ≤ n) greatest short, subst (λ (t : List ℕ). ◌≡◌ {A = Put} (record { kind = kind; name = name; bytes = bytes }) (record { kind = kind; name = name; bytes = t })) text refl, subst (λ (t : List ℕ). IsCertText t 2 c) text read)
  filed_does (Err errors.TooLong) result text read short (inl none) is = absurd (cc (none))
  filed_does (Err errors.TooLong) result text read short (inr long) is = subst does (sym is) (subst (λ (n : ℕ). n < length (text_of c)) greatest long.1, told)
  filed_does (Err (errors.Syntax line)) result text read short long is = subst does (sym is) tt
  filed_does (Err (errors.Number line)) result text read short long is = subst does (sym is) tt
  filed_does (Err errors.NoMemory) result text read short long is = subst does (sym is) tt
