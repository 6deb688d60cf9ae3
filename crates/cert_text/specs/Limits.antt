-- Which certificates have numbers that their lines can hold. That starts aren't too late is a part of having a spelling.
use Rattle.std.specs.Prelude.{◌≡◌, ◌⊎◌, ℕ, ℤ, pos, negsuc, ◌-◌, ◌≤◌, Option, Some, None, List, All, length}
use Rattle.sd_base.specs.declared.role.Role.{Role}
use Rattle.sd_base.specs.declared.role.Role.TheVariants.{Token, Own, Space, Order}
use Rattle.critical.specs.declared.cycle.FiringNo.{FiringNo}
use Rattle.periodic.specs.declared.schedule.Periodic.{Periodic}
use Rattle.cert_text.specs.declared.certificates.Certificate.{Certificate}
use Rattle.cert_text.specs.declared.certificates.Certificate.TheVariants.{Rate, Storage, Scenario}
use Rattle.cert_text.specs.declared.certificates.LinkCycle.{LinkCycle}
use Rattle.cert_text.specs.declared.certificates.LinkStep.{LinkStep}
use Rattle.cert_text.specs.declared.certificates.MemberLine.{MemberLine}
use Rattle.cert_text.specs.declared.certificates.MemberShown.{MemberShown}
use Rattle.cert_text.specs.declared.certificates.MemberShown.TheVariants.{Cycle, Blocked}
use Rattle.cert_text.specs.declared.certificates.PointLine.{PointLine}
use Rattle.cert_text.specs.declared.certificates.RateCertificate.{RateCertificate}
use Rattle.cert_text.specs.declared.certificates.StorageCertificate.{StorageCertificate}
use Rattle.cert_text.specs.declared.certificates.ScenarioCertificate.{ScenarioCertificate}
use Rattle.cert_text.specs.Widths.{SHORT_MAX, LONG_MAX, SIGNED_MAX}
use Rattle.cert_text.specs.MemberLines.{cycle_at}
use Rattle.cert_text.specs.Orderly.{IsOrderly}
use Rattle.cert_text.specs.Spellable.{IsSpellable}

-- a number of 32 bits: an actor, a channel, a state or a token
abbrev pub IsShort : ℕ → Type 0
IsShort n = n ≤ SHORT_MAX

-- a number of 64 bits: any other one
abbrev pub IsLong : ℕ → Type 0
IsLong n = n ≤ LONG_MAX

-- a potential: 128 bits with a sign
abbrev pub IsPotential : ℤ → Type 0
IsPotential (pos n) = n ≤ SIGNED_MAX
IsPotential (negsuc n) = n ≤ SIGNED_MAX

-- the numbers of a fraction
pub record IsRateWithin (rate : ℕ × ℕ) : Type 0 where
  pub num : IsLong rate.0
  pub den : IsLong rate.1

-- a channel and its capacity
pub record IsBufferWithin (buffer : ℕ × ℕ) : Type 0 where
  pub channel : IsShort buffer.0
  pub capacity : IsLong buffer.1

pub record IsScheduleWithin (schedule : Periodic) : Type 0 where
  pub period : IsLong schedule.period
  pub rounds : IsLong schedule.rounds

pub record IsFiringWithin (firing : FiringNo) : Type 0 where
  pub actor : IsShort firing.actor
  pub number : IsLong firing.number

-- what a link names; an edge of an order has no text
abbrev pub IsLinkWithin : Role → Type 0
IsLinkWithin (Token channel) = IsShort channel
IsLinkWithin (Space channel) = IsShort channel
IsLinkWithin (Own actor) = IsShort actor
IsLinkWithin (Order _ _) = Unit {0}

pub record IsStepWithin (step : LinkStep) : Type 0 where
  pub to : IsFiringWithin step.to
  pub link : IsLinkWithin step.link

pub record IsCycleWithin (cycle : LinkCycle) : Type 0 where
  pub time : IsLong cycle.time
  pub rounds : IsLong cycle.rounds
  pub first : IsFiringWithin cycle.first
  pub count : IsLong (length cycle.steps)
  pub steps : All IsStepWithin cycle.steps

pub record IsRateCertificateWithin (c : RateCertificate) : Type 0 where
  pub buffers : All IsBufferWithin c.buffers
  pub rate : IsRateWithin c.rate
  pub schedule : IsScheduleWithin c.schedule
  pub cycle : IsCycleWithin c.cycle

-- a capacity, or none
abbrev pub IsCapacityWithin : Option ℕ → Type 0
IsCapacityWithin None = Unit {0}
IsCapacityWithin (Some n) = IsLong n

-- the number of a cycle is one of those of the list
abbrev pub IsShownWithin : MemberShown → Type 0
IsShownWithin (Cycle rate cycle) = IsRateWithin rate
IsShownWithin (Blocked counts) = All IsLong counts

pub record IsMemberWithin (member : MemberLine) : Type 0 where
  pub capacities : All IsCapacityWithin member.capacities.capacities
  pub shown : IsShownWithin member.shown

pub record IsPointWithin (point : PointLine) : Type 0 where
  pub total : IsLong point.total
  pub rate : IsRateWithin point.rate
  pub member : IsLong point.member
  pub schedule : IsScheduleWithin point.schedule

pub record IsStorageWithin (c : StorageCertificate) : Type 0 where
  pub limit : IsLong c.limit
  pub cycle_count : IsLong (length c.cycles)
  pub cycles : All IsCycleWithin c.cycles
  pub member_count : IsLong (length c.members)
  pub members : All IsMemberWithin c.members
  pub point_count : IsLong (length c.points)
  pub points : All IsPointWithin c.points

-- a state and a token
pub record IsNodeWithin (node : ℕ × ℕ) : Type 0 where
  pub state : IsShort node.0
  pub token : IsShort node.1

pub record IsPotentialWithin (p : ℕ × ℕ × ℤ) : Type 0 where
  pub state : IsShort p.0
  pub token : IsShort p.1
  pub potential : IsPotential p.2

-- the first node has no number of its own
pub record IsScenarioWithin (c : ScenarioCertificate) : Type 0 where
  pub rate : IsRateWithin c.rate
  pub time : IsLong c.time
  pub edges : IsLong (length c.nodes - 1)
  pub nodes : All IsNodeWithin c.nodes
  pub potential_count : IsLong (length c.potentials)
  pub potentials : All IsPotentialWithin c.potentials

-- each number of a certificate is within its limit
abbrev pub IsWithinLimits : Certificate → Type 0
IsWithinLimits (Rate c) = IsRateCertificateWithin c
IsWithinLimits (Storage c) = IsStorageWithin c
IsWithinLimits (Scenario c) = IsScenarioWithin c

-- the cycle that a member names
abbrev pub NamesWithin : List LinkCycle → MemberShown → Type 0
NamesWithin cycles (Cycle rate cycle) = IsCycleWithin (cycle_at cycles cycle)
NamesWithin cycles (Blocked counts) = Unit {0}

abbrev pub NameWithin : List LinkCycle → List MemberLine → Type 0
NameWithin cycles members = All (λ (m : MemberLine). NamesWithin cycles m.shown) members

-- a certificate that has a spelling in a version, of numbers within their limits
pub record IsReadable (version : ℕ) (c : Certificate) : Type 0 where
  pub known : (version ≡ 1) ⊎ (version ≡ 2)
  pub orderly : IsOrderly c
  pub spellable : IsSpellable c
  pub limits : IsWithinLimits c
