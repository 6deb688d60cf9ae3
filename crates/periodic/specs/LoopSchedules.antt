-- The periodic schedule of a loop of self-timed execution.
use Rattle.std.specs.Prelude.{◌≡◌, ℕ, ◌+◌, ◌*◌, ◌≤◌, ◌<◌, List, length, slice_index}
use Rattle.sd_base.specs.declared.limits.TheConstants.{START}
use Rattle.sd_base.specs.Net.{Net}
use Rattle.sd_base.specs.Schedules.{count_of, start_of, HasInputs}
use Rattle.sd_base.specs.SelfTimed.{earliest}
use Rattle.sd_base.specs.Lawful.{Lawful}
use Rattle.sd_base.specs.Rates.{IsLoopTable}
use Rattle.firing.specs.declared.table.LoopTable.{LoopTable}
use Rattle.periodic.specs.declared.schedule.Periodic.{Periodic}
use Rattle.periodic.specs.Periods.{HasRounds, Holds}

-- firing k of an actor, some turns on, is a firing of the second pass round the loop; read there and moved back by as many
-- periods it starts as listed, but for one constant for all, with which the least start is 0
pub record IsLoopSchedule (net : Net) (entry period rounds : ℕ) (starts : List (List ℕ)) : Type 0 where
  pub listed : HasRounds net rounds starts
  pub up : ℕ
  pub down : ℕ
  pub moved : (a k q : ℕ) → a < length net.times → k < rounds * slice_index net.round a →
      count_of (earliest net (entry + period + 1)) a ≤ k + q * (rounds * slice_index net.round a) →
      k + q * (rounds * slice_index net.round a) < count_of (earliest net (entry + 2 * period + 1)) a →
      start_of starts a k + q * period + down ≡ start_of (earliest net (entry + 2 * period + 1)) a (k + q * (rounds * slice_index net.round a)) + up
  pub least : (a : ℕ) × (k : ℕ) × (a < length net.times) × (k < count_of starts a) × (start_of starts a k ≡ 0)

-- the schedule of the loop holds on the net
abbrev pub LoopHolds : Type 0
LoopHolds =
    (net : Net) (entry period rounds : ℕ) (before : List ℕ) (starts rows : List (List ℕ)) → Lawful net → HasInputs net →
    IsLoopTable net entry period rounds before starts → IsLoopSchedule net entry period rounds rows → Holds net period rounds rows

-- the schedule is that of the loop of a table, and it holds on the net
pub record IsScheduleOf (net : Net) (table : LoopTable) (schedule : Periodic) : Type 0 where
  pub period : schedule.period ≡ table.period
  pub rounds : schedule.rounds ≡ table.rounds
  pub loop : IsLoopSchedule net table.entry table.period table.rounds schedule.starts
  pub holds : Holds net schedule.period schedule.rounds schedule.starts
  pub small : (a k : ℕ) → start_of schedule.starts a k ≤ START

-- a loop has one schedule
abbrev pub OneLoopSchedule : Type 0
OneLoopSchedule =
    (net : Net) (entry period rounds : ℕ) (before : List ℕ) (starts rows others : List (List ℕ)) → Lawful net → HasInputs net →
    IsLoopTable net entry period rounds before starts → IsLoopSchedule net entry period rounds rows → IsLoopSchedule net entry period rounds others → rows ≡ others
