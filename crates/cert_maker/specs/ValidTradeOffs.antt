-- The certificates of trade-offs that are put are valid: no line of them is faulty.
use Rattle.std.specs.Prelude.{◌≡◌, ℕ, ◌*◌, ◌≤◌, Bool, List}
use Rattle.std.specs.List.{AllZip}
use Rattle.sd_base.specs.declared.limits.Limits.{Limits}
use Rattle.sd_base.specs.declared.limits.TheConstants.{STORAGE}
use Rattle.sd_base.specs.declared.tables.GraphFile.{GraphFile}
use Rattle.sd_base.specs.FileNet.{net_of}
use Rattle.sd_base.specs.Net.{Net}
use Rattle.periodic.specs.declared.schedule.Periodic.{Periodic}
use Rattle.periodic.specs.Periods.{Holds}
use Rattle.storage.specs.BoundedNets.{bound}
use Rattle.storage.specs.IncidentActors.{AreIncident}
use Rattle.pareto_front.specs.declared.point.Point.{Point}
use Rattle.explore.specs.declared.exploration.Member.{Member}
use Rattle.explore.specs.Explorations.{IsExploration}
use Rattle.cert_text.specs.declared.certificates.StorageCertificate.{StorageCertificate}
use Rattle.cert_checker.specs.declared.verdict.Reason.{Reason}
use Rattle.cert_checker.specs.StorageCertificates.{IsFileNet}
use Rattle.cert_checker.specs.StorageFaults.{IsStorageFault}
use Rattle.cert_maker.specs.StorageCertificates.{IsStorageCertificate}

-- the schedule holds on the point's bounded net, and reaches its rate
pub record IsReachedBy (net : Net) (p : Point) (s : Periodic) : Type 0 where
  pub holds : Holds (bound net p.capacities.capacities) s.period s.rounds s.starts
  pub ratio : s.rounds * p.rate.den ≡ p.rate.num * s.period

-- no line of the certificate of an exploration, with schedules that reach its points, is faulty
abbrev pub TradeOffsAreValid : Type 0
TradeOffsAreValid =
    (graph : GraphFile) (gamma : List ℕ) (no_overlap : Bool) (limits : Limits) (members : List Member) (points : List Point) (schedules : List Periodic) (c : StorageCertificate)
    → IsFileNet (net_of graph gamma no_overlap) → AreIncident (net_of graph gamma no_overlap) → limits.total ≤ STORAGE
    → IsExploration (net_of graph gamma no_overlap) limits members points → AllZip (IsReachedBy (net_of graph gamma no_overlap)) points schedules
    → IsStorageCertificate (net_of graph gamma no_overlap) no_overlap limits.total members points schedules c
    → (version line : ℕ) (reason : Reason) → IsStorageFault graph gamma version c line reason → ⊥
