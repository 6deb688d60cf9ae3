-- Members and the points below them.
use Rattle.std.specs.Prelude.{ℕ, ◌*◌, ◌≤◌, ◌<◌, List, length}
use Rattle.sd_base.specs.Net.{Net}
use Rattle.cert_text.specs.declared.certificates.MemberLine.{MemberLine}
use Rattle.cert_text.specs.declared.certificates.MemberShown.{MemberShown}
use Rattle.cert_text.specs.declared.certificates.MemberShown.TheVariants.{Cycle, Blocked}
use Rattle.cert_text.specs.declared.certificates.PointLine.{PointLine}
use Rattle.storage.specs.Distributions.{storage_of}
use Rattle.cert_checker.specs.StorageCertificates.{point_at}

-- some point has no more than a storage, and no less than a rate
abbrev pub HasBelow : List PointLine → ℕ → ℕ × ℕ → Type 0
HasBelow points storage rate =
    (k : ℕ) × (k < length points) × (1 ≤ (point_at points k).rate.1) × ((point_at points k).total ≤ storage)
    × (rate.0 * (point_at points k).rate.1 ≤ (point_at points k).rate.0 * rate.1)

-- so it is for what a member shows, if that is a rate
abbrev pub IsShownBelow : List PointLine → ℕ → MemberShown → Type 0
IsShownBelow points storage (Cycle rate cycle) = HasBelow points storage rate
IsShownBelow points storage (Blocked counts) = Unit {0}

abbrev pub IsMemberBelow : Net → List PointLine → MemberLine → Type 0
IsMemberBelow net points member = IsShownBelow points (storage_of net.channels member.capacities.capacities) member.shown
