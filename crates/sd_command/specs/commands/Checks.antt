-- The command `check`.
use Rattle.std.specs.Prelude.{ℕ, true, List}
use Rattle.cert_text.specs.declared.certificates.Certificate.{Certificate}
use Rattle.cert_text.specs.declared.certificates.Certificate.TheVariants as certificates
use Rattle.cert_text.specs.declared.certificates.ScenarioCertificate.{ScenarioCertificate}
use Rattle.cert_checker.specs.Certificates.{IsCertificateClaim, IsCertificateFault}
use Rattle.cert_checker.specs.ScenarioCertificates.{IsWorstClaim, IsWorstFault}
use Rattle.sd_io.specs.Outside.{Files}
use Rattle.sd_steps.specs.declared.file_kind.FileKind.TheVariants as files
use Rattle.sd_steps.specs.Balancings.{balancing}
use Rattle.sd_steps.specs.CertificateReadings.{opening_certificate}
use Rattle.sd_steps.specs.Courses.{Ending, After, ends_by}
use Rattle.sd_steps.specs.Judgings.{judging}
use Rattle.sd_steps.specs.Readings.{reading_graph}
use Rattle.sd_steps.specs.ScenarioSteps.{reading_scenarios, timing}
use Rattle.sd_steps.specs.Takings.{taking}

-- the verdict on the certificate of a rate or of a trade-off, over the graph that the bytes spell: what is wrong with its net
-- is a fault of the certificate
abbrev pub graph_checked : ℕ → Certificate → List ℕ → Ending → ℕ → Type 0
graph_checked version c bytes =
    After (reading_graph bytes true) λ graph.
    After (balancing graph) λ gamma.
    ends_by (judging (IsCertificateFault graph gamma version c) (IsCertificateClaim graph gamma c))

-- the verdict on the certificate of a worst rate, over the file of scenarios that the bytes spell
abbrev pub scenario_checked : ℕ → ScenarioCertificate → List ℕ → Ending → ℕ → Type 0
scenario_checked version c bytes =
    After (reading_scenarios bytes) λ file.
    After (timing file) λ graph.
    ends_by (judging (IsWorstFault graph version c) (IsWorstClaim graph c))

abbrev pub checked : ℕ → Certificate → List ℕ → Ending → ℕ → Type 0
checked version (certificates.Rate c) bytes = graph_checked version (certificates.Rate c) bytes
checked version (certificates.Storage c) bytes = graph_checked version (certificates.Storage c) bytes
checked version (certificates.Scenario c) bytes = scenario_checked version c bytes

-- the graph is taken before the certificate, and read after it, since the certificate says of which kind it is
abbrev pub check : List ℕ → List ℕ → Files → Ending → ℕ → Type 0
check graph certificate shelf =
    After (taking shelf files.Graph graph) λ bytes.
    After (opening_certificate shelf certificate) λ read.
    checked read.0 read.1 bytes
