-- Taking and reading a certificate, and the refusal of its first fault.
use Rattle.std.specs.Prelude.{◌≡◌, ℕ, List, Ok, Err}
use Rattle.cert_text.specs.declared.certificates.Certificate.{Certificate}
use Rattle.cert_text.specs.declared.error.CertError.{CertError}
use Rattle.cert_text.specs.declared.error.CertError.TheVariants as errors
use Rattle.cert_text.specs.Reading.{reading_of}
use Rattle.report.specs.declared.refusal.Refusal.{Refusal}
use Rattle.report.specs.declared.refusal.Refusal.TheVariants.{CertificateLine, CertificateNumber, UsageWords}
use Rattle.sd_io.specs.Outside.{Files}
use Rattle.sd_steps.specs.declared.file_kind.FileKind.TheVariants as kinds
use Rattle.sd_steps.specs.Courses.{Step, deciding, through}
use Rattle.sd_steps.specs.Takings.{taking}

-- a certificate with the version in which it is written
pub record Written : Type 0 where
  pub version : ℕ
  pub certificate : Certificate

-- the refusal of a fault; a text that is too long, which none that is read is, and want of memory have none
abbrev pub certificate_refusal : CertError → Refusal
certificate_refusal (errors.Syntax line) = CertificateLine line
certificate_refusal (errors.Number line) = CertificateNumber
certificate_refusal errors.TooLong = UsageWords
certificate_refusal errors.NoMemory = UsageWords

-- the first fault of the text is told of
pub record IsCertificateRefusal (bytes : List ℕ) (refusal : Refusal) : Type 0 where
  pub error : CertError
  pub first : reading_of bytes ≡ Err error
  pub told : refusal ≡ certificate_refusal error

-- reading the certificate that the bytes spell, in either version
abbrev pub reading_certificate : List ℕ → Step (ℕ × Certificate)
reading_certificate bytes = deciding (λ read. reading_of bytes ≡ Ok read) (λ refusal. IsCertificateRefusal bytes refusal)

-- taking the certificate of a name, and reading it
abbrev pub opening_certificate : Files → List ℕ → Step (ℕ × Certificate)
opening_certificate files name = through (taking files kinds.Certificate name) λ bytes. reading_certificate bytes
