-- What is right of a part of the lines, or its first fault.
use Rattle.std.specs.Prelude.{◌≡◌, ℕ, ◌+◌, ◌-◌, ◌^◌, ◌<◌, min, Option, Some, None, length}
use Rattle.sd_base.specs.Net.{Net}
use Rattle.cert_text.specs.declared.certificates.StorageCertificate.{StorageCertificate}
use Rattle.cert_checker.specs.declared.fault.Fault.{Fault}
use Rattle.cert_checker.specs.declared.verdict.Reason.{Reason}
use Rattle.cert_checker.specs.Verdicts.{IsFirst}
use Rattle.cert_checker.specs.StorageLines.{member_line, point_line}
use Rattle.cert_checker.specs.StorageCertificates.{IsMemberRight, IsPointRight}
use Rattle.cert_checker.specs.StorageFaults.{IsMemberFault, IsPointFault}

abbrev pub Judges : (ℕ → Reason → Type 0) → Type 0 → Option Fault → Type 0
Judges F right None = right
Judges F right (Some fault) = IsFirst F fault.line fault.reason

-- the number of a line, as far as 64 bits hold it
abbrev pub kept_number : ℕ → ℕ
kept_number line = min line (2 ^ 64 - 1)

-- the same, with the first fault's line as it is told
abbrev pub JudgesTold : (ℕ → Reason → Type 0) → Type 0 → Option Fault → Type 0
JudgesTold F right None = right
JudgesTold F right (Some fault) = (line : ℕ) × IsFirst F line fault.reason × (fault.line ≡ kept_number line)

-- the faults of the members
pub data IsFaultOfMembers (net : Net) (version : ℕ) (c : StorageCertificate) (line : ℕ) (reason : Reason) : Type 0 where
  at_member : (i place : ℕ) → i < length c.members → IsMemberFault net version c i place reason → line ≡ member_line version c i + place → IsFaultOfMembers net version c line reason

-- and those of the points
pub data IsFaultOfPoints (net : Net) (version : ℕ) (c : StorageCertificate) (line : ℕ) (reason : Reason) : Type 0 where
  at_point : (i place : ℕ) → i < length c.points → IsPointFault net c i place reason → line ≡ point_line version c i + place → IsFaultOfPoints net version c line reason

abbrev pub AreMembersRight : Net → StorageCertificate → Type 0
AreMembersRight net c = (i : ℕ) → i < length c.members → IsMemberRight net c i

abbrev pub ArePointsRight : Net → StorageCertificate → Type 0
ArePointsRight net c = (i : ℕ) → i < length c.points → IsPointRight net c i
