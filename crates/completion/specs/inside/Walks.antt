-- A way of needs that is followed backwards.
use Rattle.std.specs.Prelude.{◌≡◌, ℕ, ◌+◌, ◌*◌, ◌≤◌, ◌<◌, List, [], ◌∷◌, length}
use Rattle.critical.specs.declared.cycle.FiringNo.{FiringNo}
use Rattle.critical.specs.declared.cycle.CycleStep.{CycleStep}
use Rattle.sd_base.specs.Ranges.{WIDE_MOMENT_BOUND}
use Rattle.sd_base.specs.declared.limits.TheConstants.{ROUNDS}
use Rattle.completion.specs.declared.counts.Part.{Part}
use Rattle.completion.specs.declared.timetable.Start.{Start}
use Rattle.completion.specs.declared.timetable.Timetable.{Timetable}
use Rattle.completion.specs.declared.walk.Walk.{Walk}
use Rattle.sd_base.specs.Net.{Net, channel_at}
use Rattle.sd_base.specs.Schedules.{LastNeed, time_of}
use Rattle.critical.specs.Cycles.{IsChain, last_of}
use Rattle.completion.specs.Ways.{AreFirstTight, AreParts, firing_time, one_in, part_at, sum_along, time_in}
use Rattle.completion.specs.inside.Timetables.{IsLastOf, IsStart, before_of, end_at, firing_of, moment_of, pass_of}

-- `earlier` is the last need of `later` on some channel, and ends just when that one starts
pub record IsTightNeed (net : Net) (later earlier : Start) : Type 0 where
  pub channel : ℕ
  pub place : channel < length net.channels
  pub source : (channel_at net channel).source ≡ earlier.actor
  pub target : (channel_at net channel).target ≡ later.actor
  pub last : LastNeed (channel_at net channel) later.number earlier.number
  pub just : end_at net earlier ≡ later.moment

-- and that is channel i
abbrev pub IsTightNeedOn : Net → Start → ℕ → Start → Type 0
IsTightNeedOn net later i earlier = (need : IsTightNeed net later earlier) × (need.channel ≡ i)

-- no last need of the firing on channel i ends just when it starts
abbrev pub IsSlackOn : Net → Timetable → Start → ℕ → Type 0
IsSlackOn net times later i = (m : ℕ) → LastNeed (channel_at net i) later.number m →
    ¬ (moment_of times (channel_at net i).source m + time_of net (channel_at net i).source m ≡ later.moment)

-- `earlier` is such a need on some channel, and no last need on an earlier channel ends just then
pub record IsFirstNeed (net : Net) (times : Timetable) (later earlier : Start) : Type 0 where
  pub need : IsTightNeed net later earlier
  pub first : (i : ℕ) → i < need.channel → (channel_at net i).target ≡ later.actor → IsSlackOn net times later i

-- the sum of a number of each firing of a chain but the last
abbrev pub sum_before : (FiringNo → ℕ) → FiringNo → List CycleStep → ℕ
sum_before f from [] = 0
sum_before f from (step ∷ steps) = f from + sum_before f step.to steps

-- a chain leads from one firing to another one, all the time between their starts; its parts are those of all its firings but the last
pub record IsSegment (net : Net) (here kept : Start) (parts : List Part) : Type 0 where
  pub steps : List CycleStep
  pub chain : IsChain net (firing_of here) steps
  pub ends : last_of (firing_of here) steps ≡ firing_of kept
  pub tight : AreFirstTight net (firing_of here) steps
  pub time : here.moment + sum_before (firing_time net) (firing_of here) steps ≡ kept.moment
  pub actors : length parts ≡ length net.times
  pub firings : (a : ℕ) → a < length net.times → (part_at parts a).firings ≡ sum_before (one_in a) (firing_of here) steps
  pub times : (a : ℕ) → a < length net.times → (part_at parts a).time ≡ sum_before (time_in net a) (firing_of here) steps

-- a chain leads from one firing to the last one, all the time from its start to the end of the last; its parts are those of all its firings
pub record IsWayTo (net : Net) (last here : Start) (parts : List Part) : Type 0 where
  pub steps : List CycleStep
  pub chain : IsChain net (firing_of here) steps
  pub ends : last_of (firing_of here) steps ≡ firing_of last
  pub tight : AreFirstTight net (firing_of here) steps
  pub time : here.moment + sum_along (firing_time net) (firing_of here) steps ≡ end_at net last
  pub counted : AreParts net (firing_of here) steps parts

-- how often the way from one firing of an actor to a later one, whole passes further on, fits between the entry and the earlier one
pub record FitsTimes (times : Timetable) (earlier later : Start) (segments : ℕ) : Type 0 where
  pub actor : later.actor ≡ earlier.actor
  pub passes : ℕ
  pub apart : later.number ≡ earlier.number + passes * pass_of times earlier.actor
  pub fits : before_of times earlier.actor + segments * (passes * pass_of times earlier.actor) ≤ earlier.number

-- how far a walk has come, back from the last firing of its actor in some rounds, of which there are few
pub record IsWalkBack (net : Net) (times : Timetable) (walk : Walk) : Type 0 where
  pub rounds : ℕ
  pub few : rounds ≤ ROUNDS
  pub last : IsLastOf net times rounds walk.last
  pub soon : walk.last.moment ≤ WIDE_MOMENT_BOUND
  pub here : IsStart net times walk.here
  pub kept : IsStart net times walk.kept
  pub since : walk.kept.moment ≤ walk.last.moment
  pub way : IsWayTo net walk.last walk.here walk.parts.items
  pub segment : IsSegment net walk.here walk.kept walk.segment.items
