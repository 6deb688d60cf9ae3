-- Valid certificates of trade-offs, and what they show.
use Rattle.std.specs.Prelude.{◌≡◌, ℕ, ◌-◌, ◌*◌, ◌≤◌, ◌<◌, ◌⊎◌, List, [], Option, length, map, slice_index, slice_index_or}
use Rattle.sd_base.specs.declared.limits.TheConstants.{NET_CHANNELS, STORAGE}
use Rattle.sd_base.specs.Net.{Net}
use Rattle.sd_base.specs.Lawful.{Lawful}
use Rattle.sd_base.specs.Connection.{IsConnected}
use Rattle.sd_base.specs.Untimed.{Blocks}
use Rattle.periodic.specs.ScheduleLines.{LineHolds}
use Rattle.storage.specs.BoundedNets.{bound}
use Rattle.storage.specs.Distributions.{IsPlain, storage_of}
use Rattle.storage.specs.ParetoPoints.{IsFront, Pair}
use Rattle.storage.specs.Steps.{IsCorner}
use Rattle.storage.specs.IncidentActors.{AreIncident}
use Rattle.storage.specs.StorageOrder.{IsBefore, stepped}
use Rattle.cert_text.specs.declared.certificates.LinkCycle.{LinkCycle}
use Rattle.cert_text.specs.declared.certificates.MemberShown.{MemberShown}
use Rattle.cert_text.specs.declared.certificates.MemberShown.TheVariants.{Cycle, Blocked}
use Rattle.cert_text.specs.declared.certificates.PointLine.{PointLine}
use Rattle.cert_text.specs.declared.certificates.StorageCertificate.{StorageCertificate}
use Rattle.cert_text.specs.MemberLines.{cycle_at}
use Rattle.cert_checker.specs.declared.verdict.Claim.{Claim}
use Rattle.cert_checker.specs.declared.verdict.Claim.TheVariants as claims
use Rattle.cert_checker.specs.LinkCycles.{IsCycleLine}
use Rattle.cert_checker.specs.Schedules.{IsRateLine, IsScheduleLine}
use Rattle.cert_checker.specs.ShownChannels.{IsMember, IsWithin, Shows, capacities_at, member_at}

-- ---- members

-- there is no member where the corner is above the limit, else it is the first one
abbrev pub BeginsAtCorner : Net → StorageCertificate → Type 0
BeginsAtCorner net c =
    (corner : List (Option ℕ)) → IsCorner net.channels corner →
    ((c.limit < storage_of net.channels corner) × (length c.members ≡ 0))
    ⊎ ((storage_of net.channels corner ≤ c.limit) × (1 ≤ length c.members) × (capacities_at c.members 0 ≡ corner))

-- a distribution is some member with a step more room on a channel that the member shows
pub record HasParent (net : Net) (c : StorageCertificate) (ds : List (Option ℕ)) : Type 0 where
  pub place : ℕ
  pub below : place < length c.members
  pub channel : ℕ
  pub shows : Shows net c.limit c.cycles (member_at c.members place) channel
  pub is : stepped net.channels (capacities_at c.members place) channel ≡ ds

-- member i is a distribution within the limit; but for the first one it comes after the one before it, and has a parent
pub record IsInPlace (net : Net) (c : StorageCertificate) (i : ℕ) : Type 0 where
  pub within : IsWithin net c.limit (capacities_at c.members i)
  pub after : 1 ≤ i → IsBefore net.channels (capacities_at c.members (i - 1)) (capacities_at c.members i)
  pub parent : 1 ≤ i → HasParent net c (capacities_at c.members i)

-- member i with a step more room on any channel that it shows is a member, if it is within the limit
abbrev pub IsClosedAt : Net → StorageCertificate → ℕ → Type 0
IsClosedAt net c i =
    (channel : ℕ) → Shows net c.limit c.cycles (member_at c.members i) channel → storage_of net.channels (stepped net.channels (capacities_at c.members i) channel) ≤ c.limit →
    IsMember c.members (stepped net.channels (capacities_at c.members i) channel)

-- one count for each actor, which block the net
pub record AreBlocking (net : Net) (counts : List ℕ) : Type 0 where
  pub actors : length counts ≡ length net.times
  pub blocks : Blocks net (slice_index counts)

-- ---- points

-- what stands for a point past the last one
abbrev pub no_point : PointLine
no_point = record { total = 0; rate = (0, 1); member = 0; schedule = record { period = 0; rounds = 0; starts = [] } }

abbrev pub point_at : List PointLine → ℕ → PointLine
point_at points i = slice_index_or points i no_point

-- a member has this rate
abbrev pub HasRate : MemberShown → ℕ × ℕ → Type 0
HasRate (Cycle rate cycle) other = (rate.0 ≡ other.0) × (rate.1 ≡ other.1)
HasRate (Blocked counts) other = ⊥

-- some point has no more storage than a distribution, and no less than a rate
pub record IsBelow (net : Net) (points : List PointLine) (ds : List (Option ℕ)) (r : ℕ × ℕ) : Type 0 where
  pub place : ℕ
  pub below : place < length points
  pub positive : 1 ≤ (point_at points place).rate.1
  pub storage : (point_at points place).total ≤ storage_of net.channels ds
  pub rate : r.0 * (point_at points place).rate.1 ≤ (point_at points place).rate.0 * r.1

-- so it is for each member with a rate
abbrev pub AreBelow : Net → StorageCertificate → Type 0
AreBelow net c =
    (i : ℕ) (rate : ℕ × ℕ) (cycle : ℕ) → i < length c.members → (member_at c.members i).shown ≡ Cycle rate cycle → IsBelow net c.points (capacities_at c.members i) rate

-- the capacities of the member of point i
abbrev pub capacities_of : StorageCertificate → ℕ → List (Option ℕ)
capacities_of c i = capacities_at c.members (point_at c.points i).member

-- point i has the storage and the rate of its member; but for the first one both are greater than those of the point before it
pub record IsPointOf (net : Net) (c : StorageCertificate) (i : ℕ) : Type 0 where
  pub member : (point_at c.points i).member < length c.members
  pub storage : (point_at c.points i).total ≡ storage_of net.channels (capacities_of c i)
  pub rate : HasRate (member_at c.members (point_at c.points i).member).shown (point_at c.points i).rate
  pub more : 1 ≤ i → (point_at c.points (i - 1)).total < (point_at c.points i).total
  pub faster : 1 ≤ i → (point_at c.points (i - 1)).rate.0 * (point_at c.points i).rate.1 < (point_at c.points i).rate.0 * (point_at c.points (i - 1)).rate.1

-- what a member shows of its bounded net is right
abbrev pub IsShownRight : Net → List LinkCycle → MemberShown → Type 0
IsShownRight net cycles (Cycle rate cycle) = IsRateLine rate × IsCycleLine net rate (cycle_at cycles cycle)
IsShownRight net cycles (Blocked counts) = AreBlocking net counts

-- the schedule of a point reaches its rate on the net
pub record IsScheduleRight (net : Net) (point : PointLine) : Type 0 where
  pub schedule : IsScheduleLine net point.rate point.schedule
  pub starts : (a : ℕ) → a < length point.schedule.starts → LineHolds net point.schedule.period point.schedule.rounds point.schedule.starts a

-- all lines of member i are right
pub record IsMemberRight (net : Net) (c : StorageCertificate) (i : ℕ) : Type 0 where
  pub place : IsInPlace net c i
  pub closed : IsClosedAt net c i
  pub shown : IsShownRight (bound net (capacities_at c.members i)) c.cycles (member_at c.members i).shown

-- all lines of point i are right
pub record IsPointRight (net : Net) (c : StorageCertificate) (i : ℕ) : Type 0 where
  pub point : IsPointOf net c i
  pub schedule : IsScheduleRight (bound net (capacities_of c i)) (point_at c.points i)

-- all lines are right
pub record IsTradeOff (net : Net) (c : StorageCertificate) : Type 0 where
  pub incident : AreIncident net
  pub limit : c.limit ≤ STORAGE
  pub corner : BeginsAtCorner net c
  pub members : (i : ℕ) → i < length c.members → IsMemberRight net c i
  pub below : AreBelow net c
  pub points : (i : ℕ) → i < length c.points → IsPointRight net c i

-- the storage and the rate of a point
abbrev pub pair_of : PointLine → Pair
pair_of point = record { storage = point.total; num = point.rate.0; den = point.rate.1 }

-- the claim is that the points are the Pareto points up to the limit, all and no others
abbrev pub IsFrontClaim : Net → StorageCertificate → Claim → Type 0
IsFrontClaim net c (claims.Points number limit) = (number ≡ length c.points) × (limit ≡ c.limit) × IsFront net limit (map pair_of c.points)
IsFrontClaim net c (claims.Rate x) = ⊥
IsFrontClaim net c (claims.Worst x) = ⊥

-- a net of channels of a file and self-loops, connected and not too large
pub record IsFileNet (net : Net) : Type 0 where
  pub laws : Lawful net
  pub plain : IsPlain net
  pub connected : IsConnected net
  pub few : 2 * length net.channels ≤ NET_CHANNELS

-- where all lines are right, the points are the Pareto points
abbrev pub RightPointsAreTheFront : Type 0
RightPointsAreTheFront = (net : Net) (c : StorageCertificate) (corner : List (Option ℕ)) → IsFileNet net → IsCorner net.channels corner → IsTradeOff net c → IsFront net c.limit (map pair_of c.points)
