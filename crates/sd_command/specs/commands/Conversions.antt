-- The command `convert`.
use Rattle.std.specs.Prelude.{ℕ, List, Some}
use Rattle.cert_text.specs.declared.certificates.Certificate.{Certificate}
use Rattle.cert_text.specs.declared.certificates.Certificate.TheVariants as certificates
use Rattle.report.specs.declared.claims.CertificateKind.{CertificateKind}
use Rattle.report.specs.declared.claims.CertificateKind.TheVariants as kinds
use Rattle.report.specs.ClaimTexts.{converted_line}
use Rattle.sd_io.specs.Outside.{Files}
use Rattle.sd_steps.specs.declared.file_kind.FileKind.TheVariants as files
use Rattle.sd_steps.specs.Certifyings.{certifying}
use Rattle.sd_steps.specs.CertificateReadings.{opening_certificate}
use Rattle.sd_steps.specs.Courses.{Ending, After, ends_by, printing}

-- what a certificate shows
abbrev pub kind_of : Certificate → CertificateKind
kind_of (certificates.Rate c) = kinds.Throughput
kind_of (certificates.Storage c) = kinds.Storage
kind_of (certificates.Scenario c) = kinds.Scenario

-- the same certificate under the name of the output, in the version that is written
abbrev pub converted : List ℕ → Certificate → Ending → ℕ → Type 0
converted output c =
    After (certifying files.Output output c) λ put.
    ends_by (printing (converted_line (kind_of c)) (Some put))

-- the certificate isn't asked to be valid
abbrev pub convert : List ℕ → List ℕ → Files → Ending → ℕ → Type 0
convert name output shelf =
    After (opening_certificate shelf name) λ read.
    converted output read.1
