-- Ways of needs among the firings of some rounds.
use Rattle.std.specs.Prelude.{◌≡◌, ℕ, ◌+◌, ◌*◌, ◌≤◌, ◌<◌, List, [], ◌∷◌, length, slice_index, slice_index_or, if◌then◌else◌, ◌==◌}
use Rattle.critical.specs.declared.cycle.FiringNo.{FiringNo}
use Rattle.critical.specs.declared.cycle.CycleStep.{CycleStep}
use Rattle.sd_base.specs.Net.{Net, channel_at}
use Rattle.sd_base.specs.Schedules.{LastNeed, count_of, start_of, time_of}
use Rattle.sd_base.specs.SelfTimed.{earliest}
use Rattle.critical.specs.Cycles.{IsChain, last_of}
use Rattle.completion.specs.declared.counts.Part.{Part}

-- firing k of actor a is one of the first n rounds
abbrev pub InRounds : Net → ℕ → ℕ → ℕ → Type 0
InRounds net n a k = (a < length net.times) × (k < n * slice_index net.round a)

-- so is each firing of a chain
abbrev pub AreInRounds : Net → ℕ → FiringNo → List CycleStep → Type 0
AreInRounds net n from [] = InRounds net n from.actor from.number
AreInRounds net n from (step ∷ steps) = InRounds net n from.actor from.number × AreInRounds net n step.to steps

-- a way of needs: firings of the first n rounds, each after the first needing the one before as its last on the step's channel
pub record IsWay (net : Net) (n : ℕ) (from : FiringNo) (steps : List CycleStep) : Type 0 where
  pub chain : IsChain net from steps
  pub within : AreInRounds net n from steps

-- the sum of a number of each firing of a chain
abbrev pub sum_along : (FiringNo → ℕ) → FiringNo → List CycleStep → ℕ
sum_along f from [] = f from
sum_along f from (step ∷ steps) = f from + sum_along f step.to steps

-- the time of a firing
abbrev pub firing_time : Net → FiringNo → ℕ
firing_time net x = time_of net x.actor x.number

-- the time of a firing of actor a, and 0 of another one
abbrev pub time_in : Net → ℕ → FiringNo → ℕ
time_in net a x = if x.actor == a then firing_time net x else 0

-- 1 for a firing of actor a, and 0 for another one
abbrev pub one_in : ℕ → FiringNo → ℕ
one_in a x = if x.actor == a then 1 else 0

-- no firing; it stands for a part past the last one too
abbrev pub no_part : Part
no_part = record { firings = 0; time = 0 }

-- the part of actor a
abbrev pub part_at : List Part → ℕ → Part
part_at parts a = slice_index_or parts a no_part

-- by actor how many firings of a chain are its, and their time
pub record AreParts (net : Net) (from : FiringNo) (steps : List CycleStep) (parts : List Part) : Type 0 where
  pub actors : length parts ≡ length net.times
  pub firings : (a : ℕ) → a < length net.times → (part_at parts a).firings ≡ sum_along (one_in a) from steps
  pub time : (a : ℕ) → a < length net.times → (part_at parts a).time ≡ sum_along (time_in net a) from steps

-- firing k of a starts at a moment of self-timed execution
pub record StartsAt (net : Net) (a k moment : ℕ) : Type 0 where
  pub by : ℕ
  pub there : k < count_of (earliest net by) a
  pub at : start_of (earliest net by) a k ≡ moment

-- a firing ends at a moment of self-timed execution
pub record EndsAt (net : Net) (x : FiringNo) (moment : ℕ) : Type 0 where
  pub start : ℕ
  pub starts : StartsAt net x.actor x.number start
  pub takes : start + firing_time net x ≡ moment

-- on channel i the earlier firing is the last need of the later one, and ends just when this one starts
pub record IsTight (net : Net) (i : ℕ) (later earlier : FiringNo) : Type 0 where
  pub place : i < length net.channels
  pub source : (channel_at net i).source ≡ earlier.actor
  pub target : (channel_at net i).target ≡ later.actor
  pub last : LastNeed (channel_at net i) later.number earlier.number
  pub moment : ℕ
  pub starts : StartsAt net later.actor later.number moment
  pub ends : EndsAt net earlier moment

-- and on no channel before it another one is
pub record IsFirstTight (net : Net) (i : ℕ) (later earlier : FiringNo) : Type 0 where
  pub tight : IsTight net i later earlier
  pub first : (j : ℕ) (other : FiringNo) → j < i → ¬ IsTight net j later other

-- each firing of a way but the last is the first tight need of the one after it
abbrev pub AreFirstTight : Net → FiringNo → List CycleStep → Type 0
AreFirstTight net from [] = Unit {0}
AreFirstTight net from (step ∷ steps) = IsFirstTight net step.channel step.to from × AreFirstTight net step.to steps

-- the last firing of its actor in the first n rounds
abbrev pub IsLastFiring : Net → ℕ → FiringNo → Type 0
IsLastFiring net n x = (x.actor < length net.times) × (x.number + 1 ≡ n * slice_index net.round x.actor)

-- of the last firings of all actors in the first n rounds the one that ends last, of several that do that of the least actor
pub record EndsRounds (net : Net) (n : ℕ) (x : FiringNo) : Type 0 where
  pub last : IsLastFiring net n x
  pub moment : ℕ
  pub ends : EndsAt net x moment
  pub latest : (y : FiringNo) (m : ℕ) → IsLastFiring net n y → EndsAt net y m → m ≤ moment
  pub least : (y : FiringNo) → IsLastFiring net n y → EndsAt net y moment → x.actor ≤ y.actor

-- the way that is told: from a firing that starts at 0, by first tight needs, to the firing that ends the rounds
pub record IsToldWay (net : Net) (n : ℕ) (from : FiringNo) (steps : List CycleStep) : Type 0 where
  pub begins : StartsAt net from.actor from.number 0
  pub tight : AreFirstTight net from steps
  pub ends : EndsRounds net n (last_of from steps)

-- the way that is told has that time, and these parts by actor
pub record HasWay (net : Net) (n time : ℕ) (parts : List Part) : Type 0 where
  pub from : FiringNo
  pub steps : List CycleStep
  pub way : IsWay net n from steps
  pub told : IsToldWay net n from steps
  pub takes : sum_along (firing_time net) from steps ≡ time
  pub counted : AreParts net from steps parts
