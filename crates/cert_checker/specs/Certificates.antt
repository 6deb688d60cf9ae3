-- Certificates of rates and of trade-offs of one graph.
use Rattle.std.specs.Prelude.{ℕ, ◌<◌, ◌^◌, List}
use Rattle.sd_base.specs.declared.tables.GraphFile.{GraphFile}
use Rattle.sd_base.specs.FileNet.{net_of}
use Rattle.cert_text.specs.declared.certificates.Certificate.{Certificate}
use Rattle.cert_text.specs.declared.certificates.Certificate.TheVariants.{Rate, Storage, Scenario}
use Rattle.cert_checker.specs.declared.verdict.Claim.{Claim}
use Rattle.cert_checker.specs.declared.verdict.Reason.{Reason}
use Rattle.cert_checker.specs.RateCertificates.{IsRateClaim, IsRateFault, net_by}
use Rattle.cert_checker.specs.StorageCertificates.{IsFrontClaim}
use Rattle.cert_checker.specs.StorageFaults.{IsStorageFault}
use Rattle.cert_checker.specs.StorageLines.{end_line}

-- a certificate that speaks of one graph
abbrev pub IsOfGraph : Certificate → Type 0
IsOfGraph (Rate c) = Unit {0}
IsOfGraph (Storage c) = Unit {0}
IsOfGraph (Scenario c) = ⊥

-- its lines have numbers of 64 bits, as those of each certificate that is read from a file
abbrev pub HasFewLines : ℕ → Certificate → Type 0
HasFewLines version (Rate c) = Unit {0}
HasFewLines version (Storage c) = end_line version c < 2 ^ 64
HasFewLines version (Scenario c) = Unit {0}

-- the faults of a certificate
abbrev pub IsCertificateFault : GraphFile → List ℕ → ℕ → Certificate → ℕ → Reason → Type 0
IsCertificateFault graph gamma version (Rate c) = IsRateFault graph gamma c
IsCertificateFault graph gamma version (Storage c) = IsStorageFault graph gamma version c
IsCertificateFault graph gamma version (Scenario c) = λ line reason. ⊥

-- what it claims of the graph
abbrev pub IsCertificateClaim : GraphFile → List ℕ → Certificate → Claim → Type 0
IsCertificateClaim graph gamma (Rate c) = IsRateClaim (net_by graph gamma c) c
IsCertificateClaim graph gamma (Storage c) = IsFrontClaim (net_of graph gamma c.no_overlap) c
IsCertificateClaim graph gamma (Scenario c) = λ claim. ⊥
