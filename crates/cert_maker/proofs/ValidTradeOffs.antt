-- The certificate of a trade-off is valid.
use Rattle.std.proofs.Common.{◌≤◌, Bool, List, subst, arith}
use Rattle.std.specs.List.{AllZip}
use Rattle.sd_base.specs.declared.limits.Limits.{Limits}
use Rattle.sd_base.specs.declared.limits.TheConstants.{STORAGE}
use Rattle.sd_base.specs.Net.{Net}
use Rattle.sd_base.specs.FileNet.{net_of}
use Rattle.critical.specs.Bounds.{CyclesBoundTheRate}
use Rattle.periodic.specs.declared.schedule.Periodic.{Periodic}
use Rattle.storage.specs.IncidentActors.{AreIncident}
use Rattle.pareto_front.specs.declared.point.Point.{Point}
use Rattle.explore.specs.declared.exploration.Member.{Member}
use Rattle.explore.specs.Explorations.{IsExploration}
use Rattle.cert_text.specs.declared.certificates.StorageCertificate.{StorageCertificate}
use Rattle.cert_checker.specs.StorageCertificates.{IsFileNet, IsTradeOff}
use Rattle.cert_checker.specs.StorageFaults.{IsTradeOffFault}
use Rattle.cert_checker.proofs.TradeOffFaults.{faultless}
use Rattle.cert_maker.specs.StorageCertificates.{IsStorageCertificate}
use Rattle.cert_maker.specs.ValidTradeOffs.{IsReachedBy, TradeOffsAreValid}
use Rattle.cert_maker.proofs.MemberLines.{begins, member-right}
use Rattle.cert_maker.proofs.PointLines.{are-below, point-right}

-- all lines are right
all-right : CyclesBoundTheRate → (net : Net) (limits : Limits) (ms : List Member) (ps : List Point) (no_overlap : Bool) (schedules : List Periodic) (c : StorageCertificate) → IsFileNet net → AreIncident net → limits.total ≤ STORAGE
    → IsExploration net limits ms ps → AllZip (IsReachedBy net) ps schedules → IsStorageCertificate net no_overlap limits.total ms ps schedules c → IsTradeOff net c
all-right cycles_bound net limits ms ps no_overlap schedules c file incident small is keeps put = record {
  incident = incident;
  limit = (let same = put.within in omega (arith, same, small));
  corner = begins net file limits ms ps is no_overlap schedules c put;
  members = member-right net file limits ms ps is no_overlap schedules c put;
  below = are-below cycles_bound net file limits small ms ps is no_overlap schedules c put;
  points = λ i below. point-right cycles_bound net file limits small ms ps is no_overlap schedules c put i below keeps;
}

pub trade-offs-valid : CyclesBoundTheRate → TradeOffsAreValid
trade-offs-valid cycles_bound graph gamma no_overlap limits ms ps schedules c file incident small is keeps put version line reason fault =
    faultless (net_of graph gamma no_overlap) version c (all-right cycles_bound (net_of graph gamma no_overlap) limits ms ps no_overlap schedules c file incident small is keeps put) line reason
    (subst (λ (b : Bool). IsTradeOffFault (net_of graph gamma b) version c line reason) put.overlap fault)
