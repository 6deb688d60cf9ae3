-- What is put for a trade-off.
use Rattle.std.specs.Prelude.{◌≡◌, ℕ, Bool, Some, List, map, slice_get}
use Rattle.std.specs.List.{AllZip}
use Rattle.sd_base.specs.declared.numbers.Fraction.{Fraction}
use Rattle.sd_base.specs.Net.{Net}
use Rattle.periodic.specs.declared.schedule.Periodic.{Periodic}
use Rattle.storage.specs.BoundedNets.{bound}
use Rattle.pareto_front.specs.declared.point.Point.{Point}
use Rattle.explore.specs.declared.exploration.Member.{Member}
use Rattle.evaluations.specs.declared.shown.Shown.{Shown}
use Rattle.evaluations.specs.declared.shown.Shown.TheVariants as shown
use Rattle.explore.specs.Explorations.{capacities_of}
use Rattle.cert_text.specs.declared.certificates.LinkCycle.{LinkCycle}
use Rattle.cert_text.specs.declared.certificates.MemberLine.{MemberLine}
use Rattle.cert_text.specs.declared.certificates.MemberShown.{MemberShown}
use Rattle.cert_text.specs.declared.certificates.MemberShown.TheVariants.{Cycle, Blocked}
use Rattle.cert_text.specs.declared.certificates.PointLine.{PointLine}
use Rattle.cert_text.specs.declared.certificates.StorageCertificate.{StorageCertificate}
use Rattle.cert_text.specs.Orderly.{IsStorageOrderly}
use Rattle.cert_maker.specs.Links.{link_cycle}

-- a line shows what a member of this bounded net and rate does: the rate and, by its number, the need cycle; or the counts
abbrev pub IsShownBy : Net → List LinkCycle → Fraction → Shown → MemberShown → Type 0
IsShownBy net cycles rate (shown.Cycle cycle) (Cycle r i) = (r ≡ (rate.num, rate.den)) × (slice_get cycles i ≡ Some (link_cycle net cycle))
IsShownBy net cycles rate (shown.Cycle cycle) (Blocked counts) = ⊥
IsShownBy net cycles rate (shown.Blocked counts) (Cycle r i) = ⊥
IsShownBy net cycles rate (shown.Blocked counts) (Blocked listed) = listed ≡ counts

-- the line of a member
pub record IsMemberLine (net : Net) (cycles : List LinkCycle) (m : Member) (line : MemberLine) : Type 0 where
  pub capacities : line.capacities ≡ m.capacities
  pub shown : IsShownBy (bound net m.capacities.capacities) cycles m.rate m.shown line.shown

-- the line of a point, which has the number of the member that reaches it
pub record IsPointLine (members : List Member) (p : Point) (line : PointLine) : Type 0 where
  pub total : line.total ≡ p.total
  pub rate : line.rate ≡ (p.rate.num, p.rate.den)
  pub member : slice_get (capacities_of members) line.member ≡ Some p.capacities.capacities

-- the schedules of the lines of points
abbrev pub schedules_of : List PointLine → List Periodic
schedules_of lines = map (λ (line : PointLine). line.schedule) lines

-- a certificate has a line for each member and each point of an exploration, in their order, with the points' schedules; it lists
-- each need cycle that a member shows once, in the order in which members show them
pub record IsStorageCertificate (net : Net) (no_overlap : Bool) (limit : ℕ) (members : List Member) (points : List Point) (schedules : List Periodic) (c : StorageCertificate) : Type 0 where
  pub overlap : c.no_overlap ≡ no_overlap
  pub within : c.limit ≡ limit
  pub cycles : IsStorageOrderly c
  pub listed : AllZip (IsMemberLine net c.cycles) members c.members
  pub reached : AllZip (IsPointLine members) points c.points
  pub keep : schedules_of c.points ≡ schedules
