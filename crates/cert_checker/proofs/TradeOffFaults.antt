-- Where lines of a trade-off are right, none is faulty.
use Rattle.std.proofs.Common.{ℕ, List, arith}
use Rattle.sd_base.specs.Net.{Net}
use Rattle.storage.specs.BoundedNets.{bound}
use Rattle.cert_text.specs.declared.certificates.LinkCycle.{LinkCycle}
use Rattle.cert_text.specs.declared.certificates.MemberShown.{MemberShown}
use Rattle.cert_text.specs.declared.certificates.MemberShown.TheVariants.{Cycle, Blocked}
use Rattle.cert_text.specs.declared.certificates.PointLine.{PointLine}
use Rattle.cert_text.specs.declared.certificates.StorageCertificate.{StorageCertificate}
use Rattle.cert_checker.specs.declared.verdict.Reason.{Reason}
use Rattle.cert_checker.specs.LinkCycles.{IsCycleLine}
use Rattle.cert_checker.specs.Schedules.{IsRateLine}
use Rattle.cert_checker.specs.ShownChannels.{capacities_at, member_at}
use Rattle.cert_checker.specs.StorageCertificates.{AreBlocking, IsMemberRight, IsPointRight, IsScheduleRight, IsShownRight, IsTradeOff}
use Rattle.cert_checker.specs.StorageFaults.{IsCountsFault, IsCycleFault, IsMemberFault, IsPointFault, IsScheduleFault, IsShownFault, IsTradeOffFault, rate, cycle, counts, member, closure, shown, schedule, starts, point, reaches, incident, limit, corner, of_member, covered, of_point}

pub no-cycle : (net : Net) (version : ℕ) (x : ℕ × ℕ) (links : LinkCycle) → IsRateLine x × IsCycleLine net x links → (l : ℕ) (r : Reason) → IsCycleFault net version x links l r → ⊥
no-cycle net version x links is l r (rate h il ir) = h is.0
no-cycle net version x links is l r (cycle h il ir) = h is.1

pub no-counts : (net : Net) (xs : List ℕ) → AreBlocking net xs → (l : ℕ) (r : Reason) → IsCountsFault net xs l r → ⊥
no-counts net xs is l r (counts h il ir) = h is

pub no-shown : (net : Net) (version : ℕ) (cs : List LinkCycle) (s : MemberShown) → IsShownRight net cs s → (l : ℕ) (r : Reason) → IsShownFault net version cs s l r → ⊥
no-shown net version cs (Cycle x k) is l r fault = no-cycle net version x _ is l r fault
no-shown net version cs (Blocked xs) is l r fault = no-counts net xs is l r fault

pub no-member : (net : Net) (version : ℕ) (c : StorageCertificate) (i : ℕ) → IsMemberRight net c i → (l : ℕ) (r : Reason) → IsMemberFault net version c i l r → ⊥
no-member net version c i is l r (member h il ir) = h is.place
no-member net version c i is l r (closure h il ir) = h is.closed
no-member net version c i is l r (shown fault) = no-shown (bound net (capacities_at c.members i)) version c.cycles (member_at c.members i).shown is.shown l r fault

pub no-schedule : (net : Net) (p : PointLine) → IsScheduleRight net p → (l : ℕ) (r : Reason) → IsScheduleFault net p l r → ⊥
no-schedule net p is l r (schedule h il ir) = h is.schedule
no-schedule net p is l r (starts a below h il ir) = h (is.starts a below)

pub no-point : (net : Net) (c : StorageCertificate) (i : ℕ) → IsPointRight net c i → (l : ℕ) (r : Reason) → IsPointFault net c i l r → ⊥
no-point net c i is l r (point h il ir) = h is.point
no-point net c i is l r (reaches fault) = no-schedule _ _ is.schedule l r fault

pub faultless : (net : Net) (version : ℕ) (c : StorageCertificate) → IsTradeOff net c → (l : ℕ) (r : Reason) → IsTradeOffFault net version c l r → ⊥
faultless net version c is l r (incident h il ir) = h is.incident
faultless net version c is l r (limit h il ir) = omega (arith, h, is.limit)
faultless net version c is l r (corner h il ir) = h is.corner
faultless net version c is l r (of_member i at below fault il) = no-member net version c i (is.members i below) at r fault
faultless net version c is l r (covered h il ir) = h is.below
faultless net version c is l r (of_point i at below fault il) = no-point net c i (is.points i below) at r fault
