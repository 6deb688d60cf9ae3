-- The certificate of an answer, as the file that it puts.
use Rattle.std.specs.Prelude.{◌≡◌, ℕ, ◌<◌, ◌≤◌, List, length, Option, Some, None}
use Rattle.sd_base.specs.declared.limits.Quantity.TheVariants as quantities
use Rattle.sd_base.specs.Limits.{greatest_of}
use Rattle.cert_text.specs.declared.certificates.Certificate.{Certificate}
use Rattle.cert_text.specs.Reading.{IsCertText}
use Rattle.cert_text.specs.Spelling.{spelling}
use Rattle.report.specs.declared.refusal.Refusal.{Refusal}
use Rattle.report.specs.declared.refusal.Refusal.TheVariants.{Above}
use Rattle.report.specs.QuantityWords.{quantity_text}
use Rattle.sd_steps.specs.declared.answer.Put.{Put}
use Rattle.sd_steps.specs.declared.file_kind.FileKind.{FileKind}
use Rattle.sd_steps.specs.declared.file_kind.FileKind.TheVariants as kinds
use Rattle.sd_steps.specs.Courses.{Step, deciding}

-- the text that is put: that of version 2
abbrev pub text_of : Certificate → List ℕ
text_of c = spelling 2 c

-- a file of a kind that is a certificate, under a name, unless its text is too long; the certificate is read again from it
abbrev pub certifying : FileKind → List ℕ → Certificate → Step Put
certifying kind name c = deciding
    (λ put. (length (text_of c) ≤ greatest_of quantities.CertificateBytes) × (put ≡ record { kind = kind; name = name; bytes = text_of c }) × IsCertText (text_of c) 2 c)
    (λ refusal. (greatest_of quantities.CertificateBytes < length (text_of c))
    × (refusal ≡ Above None (quantity_text quantities.CertificateBytes) (greatest_of quantities.CertificateBytes)))

-- an answer puts nothing where no certificate is asked for, and else a certificate of what it shows
abbrev pub Certifies : Option (List ℕ) → (Certificate → Type 0) → Option Put → Type 0
Certifies None shows put = put ≡ None
Certifies (Some name) shows put = (c : Certificate) × shows c × ((p : Put) × (certifying kinds.Certificate name c).passes p × (put ≡ Some p))

-- a certificate of what an answer shows is asked for, and is too long
abbrev pub IsTooLong : Option (List ℕ) → (Certificate → Type 0) → Refusal → Type 0
IsTooLong None shows refusal = ⊥
IsTooLong (Some name) shows refusal = (c : Certificate) × shows c × (certifying kinds.Certificate name c).refuses refusal

-- where one is asked for, each certificate of what an answer shows is short enough
abbrev pub AreShort : Option (List ℕ) → (Certificate → Type 0) → Type 0
AreShort None shows = Unit {0}
AreShort (Some name) shows = (c : Certificate) → shows c → length (text_of c) ≤ greatest_of quantities.CertificateBytes
