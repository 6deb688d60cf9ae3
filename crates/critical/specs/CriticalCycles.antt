-- Critical need cycles of a loop of self-timed execution.
use Rattle.std.specs.Prelude.{◌≡◌, ◌≢◌, ℕ, zero, suc, ◌+◌, ◌*◌, ◌%◌, ◌≤◌, ◌<◌, ◌⊎◌, List, [], ◌∷◌, length, slice_index, slice_index_or}
use Rattle.firing.specs.declared.table.LoopTable.{LoopTable}
use Rattle.critical.specs.declared.cycle.FiringNo.{FiringNo}
use Rattle.critical.specs.declared.cycle.CycleStep.{CycleStep}
use Rattle.critical.specs.declared.cycle.NeedCycle.{NeedCycle}
use Rattle.sd_base.specs.Net.{Net, channel_at}
use Rattle.sd_base.specs.Schedules.{LastNeed, count_of, start_of, end_of}
use Rattle.sd_base.specs.SelfTimed.{earliest}
use Rattle.critical.specs.Cycles.{HoldsOn}
use Rattle.critical.specs.Spaces.{no_step}

-- the firings of actor a in a pass round the loop
abbrev pub pass_of : Net → ℕ → ℕ → ℕ
pass_of net rounds a = rounds * slice_index net.round a

-- the need of a step is tight: moved by whole passes into the second one, the step's firing has for its last need on the channel
-- the needed firing, moved as far, and starts just when that one ends
pub record IsTight (net : Net) (entry period rounds : ℕ) (from : FiringNo) (step : CycleStep) : Type 0 where
  pub later : ℕ
  pub need : ℕ
  pub down : ℕ
  pub up : ℕ
  pub started : count_of (earliest net (entry + period + 1)) step.to.actor ≤ later
  pub within : later < count_of (earliest net (entry + 2 * period + 1)) step.to.actor
  pub at_step : later + down * pass_of net rounds step.to.actor ≡ step.to.number + up * pass_of net rounds step.to.actor
  pub at_need : need + down * pass_of net rounds from.actor ≡ from.number + up * pass_of net rounds from.actor
  pub last : LastNeed (channel_at net step.channel) later need
  pub there : need < count_of (earliest net (entry + 2 * period + 1)) from.actor
  pub just : end_of net (earliest net (entry + 2 * period + 1)) from.actor need ≡ start_of (earliest net (entry + 2 * period + 1)) step.to.actor later

-- so is that of each step from a firing on
abbrev pub AreTight : Net → ℕ → ℕ → ℕ → FiringNo → List CycleStep → Type 0
AreTight net entry period rounds from [] = Unit {0}
AreTight net entry period rounds from (step ∷ steps) =
    IsTight net entry period rounds from step × AreTight net entry period rounds step.to steps

-- firing i of a cycle: the first one, then those to which its steps lead
abbrev pub firing_at : NeedCycle → ℕ → FiringNo
firing_at cycle zero = cycle.first
firing_at cycle (suc i) = (slice_index_or cycle.steps i no_step).to

-- a need cycle with the rounds per time of the loop, no two of whose firings but the first and last lie whole passes apart,
-- numbered as low as leaves none below 0, with tight needs alone
pub record IsCriticalCycleOf (net : Net) (table : LoopTable) (cycle : NeedCycle) : Type 0 where
  pub holds : HoldsOn net cycle
  pub rate : cycle.rounds * table.period ≡ table.rounds * cycle.time
  pub apart : (i j : ℕ) → i < j → j ≤ length cycle.steps → (1 ≤ i) ⊎ (j < length cycle.steps) → (firing_at cycle i).actor ≡ (firing_at cycle j).actor →
      (firing_at cycle i).number % pass_of net table.rounds (firing_at cycle i).actor
      ≢ (firing_at cycle j).number % pass_of net table.rounds (firing_at cycle j).actor
  pub least : (i : ℕ) × (i ≤ length cycle.steps) × ((firing_at cycle i).number < slice_index net.round (firing_at cycle i).actor)
  pub tight : AreTight net table.entry table.period table.rounds cycle.first cycle.steps

-- firing `number` of actor a is one of the second pass round the loop
pub record InSecondPass (net : Net) (entry period a number : ℕ) : Type 0 where
  pub started : count_of (earliest net (entry + period + 1)) a ≤ number
  pub within : number < count_of (earliest net (entry + 2 * period + 1)) a

-- the last need on channel i of a firing of its target ends just when that firing starts
abbrev pub HasTightNeed : Net → ℕ → ℕ → ℕ → ℕ → Type 0
HasTightNeed net entry period i number =
    (m : ℕ) × LastNeed (channel_at net i) number m
    × (m < count_of (earliest net (entry + 2 * period + 1)) (channel_at net i).source)
    × (end_of net (earliest net (entry + 2 * period + 1)) (channel_at net i).source m ≡ start_of (earliest net (entry + 2 * period + 1)) (channel_at net i).target number)
