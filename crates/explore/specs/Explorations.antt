-- What an exploration of storage distributions comes to.
use Rattle.std.specs.Prelude.{◌≡◌, ℕ, ◌+◌, ◌*◌, ◌≤◌, ◌<◌, ◌⊎◌, true, Option, List, [], ◌∷◌, length, map, slice_index, All, Contains}
use Rattle.sd_base.specs.declared.limits.Limits.{Limits}
use Rattle.sd_base.specs.declared.numbers.Fraction.{Fraction}
use Rattle.sd_base.specs.Net.{Net}
use Rattle.sd_base.specs.Rates.{Rate}
use Rattle.sd_base.specs.Untimed.{IsBlockedBy, IsLive}
use Rattle.firing.specs.declared.table.LoopTable.{LoopTable}
use Rattle.lasso.specs.LoopAnswers.{IsFound, IsRunRefusal}
use Rattle.lasso.specs.RunError.TheVariants as causes
use Rattle.critical.specs.CriticalCycles.{IsCriticalCycleOf}
use Rattle.critical.specs.Spaces.{IsSpaceAt}
use Rattle.storage.specs.BoundedNets.{bound}
use Rattle.storage.specs.CapacityOrder.{no_later}
use Rattle.storage.specs.Distributions.{AtMost, storage_of}
use Rattle.storage.specs.ParetoPoints.{IsFront, Pair, Reaches}
use Rattle.storage.specs.ShownSpaces.{ShowsSpace}
use Rattle.storage.specs.Steps.{IsCorner}
use Rattle.storage.specs.StorageOrder.{AreInOrder, stepped}
use Rattle.pareto_front.specs.declared.point.Point.{Point}
use Rattle.evaluations.specs.declared.shown.Shown.{Shown}
use Rattle.evaluations.specs.declared.shown.Shown.TheVariants.{Cycle, Blocked}
use Rattle.evaluations.specs.ShownCycles.{shows_cycle}
use Rattle.explore.specs.declared.error.ExploreError.{ExploreError}
use Rattle.explore.specs.declared.error.ExploreError.TheVariants.{StatesSpent, TooManyStarts, DistributionsSpent, NoMemory}
use Rattle.explore.specs.declared.exploration.Member.{Member}
use Rattle.explore.specs.Reachable.{IsReachable}

-- what shows the rate of a distribution: a critical cycle of the loop of its bounded net, whose rounds by its time are the
-- rate, or counts that block the net, whose rate is 0
abbrev pub ShowsRate : Net → List (Option ℕ) → ℕ → Fraction → Shown → Type 0
ShowsRate net ds states rate (Cycle cycle) =
    (table : LoopTable) × IsFound (bound net ds) states table × IsCriticalCycleOf (bound net ds) table cycle
    × (cycle.rounds * rate.den ≡ rate.num * cycle.time)
ShowsRate net ds states rate (Blocked counts) =
    (lacks : List (Option ℕ)) × IsBlockedBy (bound net ds) counts lacks × (rate.num ≡ 0)

-- the channels that are shown: those whose free space is on the cycle, or that the counts show
abbrev pub ShowsChannel : Net → List (Option ℕ) → Shown → ℕ → Type 0
ShowsChannel net ds (Cycle cycle) c = (i : ℕ) × (i < length cycle.steps) × IsSpaceAt (bound net ds) cycle.steps i c
ShowsChannel net ds (Blocked counts) c = ShowsSpace net ds (slice_index counts) c

-- a distribution with the rate of its bounded net and what shows it
pub record IsMember (net : Net) (states : ℕ) (m : Member) : Type 0 where
  pub rate : Rate (bound net m.capacities.capacities) m.rate.num m.rate.den
  pub shown : ShowsRate net m.capacities.capacities states m.rate m.shown

-- the distributions of members
abbrev pub capacities_of : List Member → List (List (Option ℕ))
capacities_of ms = map (λ (m : Member). m.capacities.capacities) ms

-- the distribution is the corner, or has a step more room than a member on a channel that this one shows
abbrev pub IsLedTo : Net → List Member → List (Option ℕ) → Type 0
IsLedTo net ms ds =
    IsCorner net.channels ds
    ⊎ ((m : Member) × Contains ms m × ((c : ℕ) × ShowsChannel net m.capacities.capacities m.shown c × (ds ≡ stepped net.channels m.capacities.capacities c)))

-- a point without its distribution
abbrev pub pair_of : Point → Pair
pair_of p = record { storage = p.total; num = p.rate.num; den = p.rate.den }

-- a point's distribution reaches its storage and its rate within the limit, and is the least that does; and its table is the
-- loop of the bounded net
pub record IsPoint (net : Net) (limits : Limits) (p : Point) : Type 0 where
  pub reaches : Reaches net limits.total p.total p.rate.num p.rate.den p.capacities.capacities
  pub least : (ds : List (Option ℕ)) → Reaches net limits.total p.total p.rate.num p.rate.den ds → no_later p.capacities.capacities ds ≡ true
  pub found : IsFound (bound net p.capacities.capacities) limits.states p.table

-- the corner is one of the distributions, if it is within the limit
pub record BeginsAtCorner (net : Net) (limit : ℕ) (dss : List (List (Option ℕ))) : Type 0 where
  pub corner : List (Option ℕ)
  pub is_corner : IsCorner net.channels corner
  pub start : storage_of net.channels corner ≤ limit → Contains dss corner

-- a member that is at most the distribution on every channel, and has this rate
pub record HasCover (members : List Member) (ds : List (Option ℕ)) (num den : ℕ) : Type 0 where
  pub member : Member
  pub among : Contains members member
  pub most : AtMost member.capacities.capacities ds
  pub num_is : member.rate.num ≡ num
  pub den_is : member.rate.den ≡ den

-- the points are the front of all distributions within the limit, each with its least one; each distribution that reaches a
-- point is a member, and each with a rate above 0 has a member that is at most it and has its rate; the members are reachable
-- and in order, begin at the corner, lead on from each to those with a step more room on a channel that it shows, and are no
-- more than allowed
pub record IsExploration (net : Net) (limits : Limits) (members : List Member) (points : List Point) : Type 0 where
  pub front : IsFront net limits.total (map pair_of points)
  pub reached : (p : Point) → Contains points p → IsPoint net limits p
  pub listed : (p : Point) → Contains points p → Contains (capacities_of members) p.capacities.capacities
  pub all_listed : (p : Point) (ds : List (Option ℕ)) → Contains points p → Reaches net limits.total p.total p.rate.num p.rate.den ds → Contains (capacities_of members) ds
  pub covered : (storage num den : ℕ) (ds : List (Option ℕ)) → Reaches net limits.total storage num den ds → HasCover members ds num den
  pub evaluated : (m : Member) → Contains members m → IsMember net limits.states m
  pub reachable : (ds : List (Option ℕ)) → Contains (capacities_of members) ds → IsReachable net limits.total ds
  pub order : AreInOrder net.channels (capacities_of members)
  pub start : BeginsAtCorner net limits.total (capacities_of members)
  pub closed : (m : Member) (c : ℕ) → Contains members m → ShowsChannel net m.capacities.capacities m.shown c →
      storage_of net.channels (stepped net.channels m.capacities.capacities c) ≤ limits.total → Contains (capacities_of members) (stepped net.channels m.capacities.capacities c)
  pub led : (ds : List (Option ℕ)) → Contains (capacities_of members) ds → IsLedTo net members ds
  pub few : length members ≤ limits.distributions

-- how many of the members show a cycle
abbrev pub cycles_in : List Member → ℕ
cycles_in [] = 0
cycles_in (m ∷ ms) = shows_cycle m.shown + cycles_in ms

-- distributions that differ and are all reachable within the limit
pub record AreFound (net : Net) (limit : ℕ) (dss : List (List (Option ℕ))) : Type 0 where
  pub order : AreInOrder net.channels dss
  pub reachable : (ds : List (Option ℕ)) → Contains dss ds → IsReachable net limit ds

-- why an exploration isn't ended: the loop of the live bounded net of a reachable distribution isn't run to the end; more
-- distributions are reachable than allowed; or want of memory
abbrev pub IsRefusal : Net → Limits → ExploreError → Type 0
IsRefusal net limits (StatesSpent at) = IsReachable net limits.total at.capacities × IsLive (bound net at.capacities) × IsRunRefusal (bound net at.capacities) limits.states causes.StatesSpent
IsRefusal net limits (TooManyStarts at) = IsReachable net limits.total at.capacities × IsLive (bound net at.capacities) × IsRunRefusal (bound net at.capacities) limits.states causes.TooManyStarts
IsRefusal net limits DistributionsSpent = (dss : List (List (Option ℕ))) × AreFound net limits.total dss × (limits.distributions < length dss)
IsRefusal net limits NoMemory = Unit {0}

-- no more loops are counted than there are reachable distributions, and than are allowed
abbrev pub CountsFew : Net → Limits → ℕ → ℕ → Type 0
CountsFew net limits before after =
    (dss : List (List (Option ℕ))) × AreFound net limits.total dss × (after ≤ before + length dss) × (length dss ≤ limits.distributions)

-- so many distributions that differ, are reachable within the limit and have live bounded nets, no more than allowed
abbrev pub CountsLive : Net → Limits → ℕ → Type 0
CountsLive net limits n =
    (dss : List (List (Option ℕ))) × AreFound net limits.total dss × All (λ ds. IsLive (bound net ds)) dss × (n ≡ length dss) × (length dss ≤ limits.distributions)
