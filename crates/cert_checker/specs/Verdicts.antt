-- The first fault of a certificate, and verdicts.
use Rattle.std.specs.Prelude.{◌≡◌, ℕ, ◌-◌, ◌^◌, ◌≤◌, ◌<◌, ◌⊎◌}
use Rattle.cert_checker.specs.declared.verdict.Claim.{Claim}
use Rattle.cert_checker.specs.declared.verdict.Reason.{Reason}
use Rattle.cert_checker.specs.declared.verdict.Reason.TheVariants.{Connection, Buffers, Rate, Schedule, Cycle, Limit, Member, Blocked, Closure, Point, Node, Potential}
use Rattle.cert_checker.specs.declared.verdict.Verdict.{Verdict}
use Rattle.cert_checker.specs.declared.verdict.Verdict.TheVariants.{Accepted, Rejected}

-- which of the faults of one line is told
abbrev pub rank_of : Reason → ℕ
rank_of Connection = 0
rank_of Buffers = 1
rank_of Rate = 2
rank_of Schedule = 3
rank_of Cycle = 4
rank_of Limit = 5
rank_of Member = 6
rank_of Blocked = 7
rank_of Closure = 8
rank_of Point = 9
rank_of Node = 10
rank_of Potential = 11

-- the fault of the least line, and there of the first reason
pub record IsFirst (F : ℕ → Reason → Type 0) (line : ℕ) (reason : Reason) : Type 0 where
  pub is : F line reason
  pub least : (l : ℕ) (r : Reason) → F l r → (line < l) ⊎ ((line ≡ l) × (rank_of reason ≤ rank_of r))

-- accepted with a claim that is shown where no line is faulty, else rejected for the first fault
abbrev pub IsVerdict : (ℕ → Reason → Type 0) → (Claim → Type 0) → Verdict → Type 0
IsVerdict F shown (Accepted claim) = ((l : ℕ) (r : Reason) → F l r → ⊥) × shown claim
IsVerdict F shown (Rejected line reason) = IsFirst F line reason

-- the number by which a line is told: its own, or the greatest of 64 bits where its own is greater
abbrev pub IsToldAs : ℕ → ℕ → Type 0
IsToldAs line number = (number ≡ line) ⊎ ((number ≡ 2 ^ 64 - 1) × (2 ^ 64 ≤ line))

-- the same verdict, whose line may have a number of more than 64 bits
abbrev pub IsToldVerdict : (ℕ → Reason → Type 0) → (Claim → Type 0) → Verdict → Type 0
IsToldVerdict F shown (Accepted claim) = ((l : ℕ) (r : Reason) → F l r → ⊥) × shown claim
IsToldVerdict F shown (Rejected number reason) = (line : ℕ) × IsFirst F line reason × IsToldAs line number
