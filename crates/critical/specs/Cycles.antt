-- Need cycles.
use Rattle.std.specs.Prelude.{◌≡◌, ℕ, ◌+◌, ◌*◌, ◌≤◌, ◌<◌, List, [], ◌∷◌, length, slice_index}
use Rattle.critical.specs.declared.cycle.FiringNo.{FiringNo}
use Rattle.critical.specs.declared.cycle.CycleStep.{CycleStep}
use Rattle.critical.specs.declared.cycle.NeedCycle.{NeedCycle}
use Rattle.sd_base.specs.Net.{Net, channel_at}
use Rattle.sd_base.specs.Schedules.{time_of, LastNeed}

-- the step's channel leads from the actor of a firing to that of the step, whose firing needs that one as its last
pub record IsStep (net : Net) (from : FiringNo) (step : CycleStep) : Type 0 where
  pub place : step.channel < length net.channels
  pub source : (channel_at net step.channel).source ≡ from.actor
  pub target : (channel_at net step.channel).target ≡ step.to.actor
  pub last : LastNeed (channel_at net step.channel) step.to.number from.number

-- from a firing on, each step leads on from the one before
abbrev pub IsChain : Net → FiringNo → List CycleStep → Type 0
IsChain net from [] = Unit {0}
IsChain net from (step ∷ steps) = IsStep net from step × IsChain net step.to steps

-- the last firing of a chain
abbrev pub last_of : FiringNo → List CycleStep → FiringNo
last_of from [] = from
last_of from (step ∷ steps) = last_of step.to steps

-- the times of all firings of a chain but the last
abbrev pub time_along : Net → FiringNo → List CycleStep → ℕ
time_along net from [] = 0
time_along net from (step ∷ steps) = time_of net from.actor from.number + time_along net step.to steps

-- a chain of at least one step that leads from a firing to one of the same actor as many rounds later, in the time given
pub record HoldsOn (net : Net) (cycle : NeedCycle) : Type 0 where
  pub some_step : 1 ≤ length cycle.steps
  pub some_round : 1 ≤ cycle.rounds
  pub chain : IsChain net cycle.first cycle.steps
  pub actor : (last_of cycle.first cycle.steps).actor ≡ cycle.first.actor
  pub number : (last_of cycle.first cycle.steps).number ≡ cycle.first.number + cycle.rounds * slice_index net.round cycle.first.actor
  pub time : cycle.time ≡ time_along net cycle.first cycle.steps
