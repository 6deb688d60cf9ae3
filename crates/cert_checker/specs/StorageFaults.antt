-- The faults of certificates of trade-offs, line by line.
use Rattle.std.specs.Prelude.{◌≡◌, ℕ, ◌+◌, ◌<◌, ◌==◌, List, length, if◌then◌else◌}
use Rattle.sd_base.specs.declared.limits.TheConstants.{STORAGE}
use Rattle.sd_base.specs.declared.tables.GraphFile.{GraphFile}
use Rattle.sd_base.specs.Net.{Net}
use Rattle.sd_base.specs.FileNet.{net_of}
use Rattle.periodic.specs.ScheduleLines.{LineHolds}
use Rattle.storage.specs.BoundedNets.{bound}
use Rattle.storage.specs.IncidentActors.{AreIncident}
use Rattle.cert_text.specs.declared.certificates.LinkCycle.{LinkCycle}
use Rattle.cert_text.specs.declared.certificates.MemberShown.{MemberShown}
use Rattle.cert_text.specs.declared.certificates.MemberShown.TheVariants.{Cycle, Blocked}
use Rattle.cert_text.specs.declared.certificates.PointLine.{PointLine}
use Rattle.cert_text.specs.declared.certificates.StorageCertificate.{StorageCertificate}
use Rattle.cert_text.specs.MemberLines.{cycle_at}
use Rattle.cert_checker.specs.declared.verdict.Reason.{Reason}
use Rattle.cert_checker.specs.declared.verdict.Reason.TheVariants as reasons
use Rattle.cert_checker.specs.LinkCycles.{IsCycleLine}
use Rattle.cert_checker.specs.Schedules.{IsRateLine, IsScheduleLine}
use Rattle.cert_checker.specs.ShownChannels.{capacities_at, member_at}
use Rattle.cert_checker.specs.StorageLines.{member_line, members_line, point_line, points_line}
use Rattle.cert_checker.specs.StorageCertificates.{AreBelow, AreBlocking, BeginsAtCorner, IsClosedAt, IsInPlace, IsPointOf, IsTradeOff, capacities_of, point_at}

-- the faults of a rate and of the cycle that bounds it, by their place after the member's first line
pub data IsCycleFault (net : Net) (version : ℕ) (p : ℕ × ℕ) (links : LinkCycle) (place : ℕ) (reason : Reason) : Type 0 where
  rate : (IsRateLine p → ⊥) → place ≡ 1 → reason ≡ reasons.Rate → IsCycleFault net version p links place reason
  cycle : (IsCycleLine net p links → ⊥) → place ≡ (if version == 1 then 2 else 1) → reason ≡ reasons.Cycle → IsCycleFault net version p links place reason

-- those of counts
pub data IsCountsFault (net : Net) (xs : List ℕ) (place : ℕ) (reason : Reason) : Type 0 where
  counts : (AreBlocking net xs → ⊥) → place ≡ 2 → reason ≡ reasons.Blocked → IsCountsFault net xs place reason

-- those of what a member shows of its bounded net
abbrev pub IsShownFault : Net → ℕ → List LinkCycle → MemberShown → ℕ → Reason → Type 0
IsShownFault net version cs (Cycle x k) place reason = IsCycleFault net version x (cycle_at cs k) place reason
IsShownFault net version cs (Blocked xs) place reason = IsCountsFault net xs place reason

-- and those of member i
pub data IsMemberFault (net : Net) (version : ℕ) (c : StorageCertificate) (i : ℕ) (place : ℕ) (reason : Reason) : Type 0 where
  member : (IsInPlace net c i → ⊥) → place ≡ 0 → reason ≡ reasons.Member → IsMemberFault net version c i place reason
  closure : (IsClosedAt net c i → ⊥) → place ≡ 0 → reason ≡ reasons.Closure → IsMemberFault net version c i place reason
  shown : IsShownFault (bound net (capacities_at c.members i)) version c.cycles (member_at c.members i).shown place reason → IsMemberFault net version c i place reason

-- the faults of a schedule on a net, by their place after the point's first line
pub data IsScheduleFault (net : Net) (point : PointLine) (place : ℕ) (reason : Reason) : Type 0 where
  schedule : (IsScheduleLine net point.rate point.schedule → ⊥) → place ≡ 1 → reason ≡ reasons.Schedule → IsScheduleFault net point place reason
  starts : (a : ℕ) → a < length point.schedule.starts → (LineHolds net point.schedule.period point.schedule.rounds point.schedule.starts a → ⊥) → place ≡ 2 + a → reason ≡ reasons.Schedule → IsScheduleFault net point place reason

-- and those of point i
pub data IsPointFault (net : Net) (c : StorageCertificate) (i : ℕ) (place : ℕ) (reason : Reason) : Type 0 where
  point : (IsPointOf net c i → ⊥) → place ≡ 0 → reason ≡ reasons.Point → IsPointFault net c i place reason
  reaches : IsScheduleFault (bound net (capacities_of c i)) (point_at c.points i) place reason → IsPointFault net c i place reason

-- the faults of lines, of the net of a graph
pub data IsTradeOffFault (net : Net) (version : ℕ) (c : StorageCertificate) (line : ℕ) (reason : Reason) : Type 0 where
  incident : (AreIncident net → ⊥) → line ≡ 2 → reason ≡ reasons.Connection → IsTradeOffFault net version c line reason
  limit : STORAGE < c.limit → line ≡ 4 → reason ≡ reasons.Limit → IsTradeOffFault net version c line reason
  corner : (BeginsAtCorner net c → ⊥) → line ≡ members_line version c → reason ≡ reasons.Member → IsTradeOffFault net version c line reason
  of_member : (i place : ℕ) → i < length c.members → IsMemberFault net version c i place reason → line ≡ member_line version c i + place → IsTradeOffFault net version c line reason
  covered : (AreBelow net c → ⊥) → line ≡ points_line version c → reason ≡ reasons.Point → IsTradeOffFault net version c line reason
  of_point : (i place : ℕ) → i < length c.points → IsPointFault net c i place reason → line ≡ point_line version c i + place → IsTradeOffFault net version c line reason

abbrev pub IsStorageFault : GraphFile → List ℕ → ℕ → StorageCertificate → ℕ → Reason → Type 0
IsStorageFault graph gamma version c line reason = IsTradeOffFault (net_of graph gamma c.no_overlap) version c line reason

-- where all lines are right, none is faulty
abbrev pub RightLinesAreFaultless : Type 0
RightLinesAreFaultless = (net : Net) (version : ℕ) (c : StorageCertificate) → IsTradeOff net c → (line : ℕ) (reason : Reason) → IsTradeOffFault net version c line reason → ⊥
