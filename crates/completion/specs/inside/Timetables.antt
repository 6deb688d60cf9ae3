-- When firings of self-timed execution start.
use Rattle.std.specs.Prelude.{◌≡◌, ℕ, ◌+◌, ◌-◌, ◌*◌, ◌/◌, ◌%◌, ◌≤◌, ◌<◌, length, slice_index, if◌then◌else◌, nat_lt}
use Rattle.sd_base.specs.declared.limits.TheConstants.{STARTS}
use Rattle.completion.specs.declared.timetable.Start.{Start}
use Rattle.completion.specs.declared.timetable.Timetable.{Timetable}
use Rattle.critical.specs.declared.cycle.FiringNo.{FiringNo}
use Rattle.sd_base.specs.Net.{Net}
use Rattle.sd_base.specs.Schedules.{HasInputs, count_of, start_of}
use Rattle.sd_base.specs.SelfTimed.{earliest, starts_by}
use Rattle.sd_base.specs.Lawful.{Lawful}
use Rattle.sd_base.specs.Rates.{IsLoopTable}
use Rattle.completion.specs.Ways.{firing_time}

-- how many firings of a have started by the entry
abbrev pub before_of : Timetable → ℕ → ℕ
before_of times a = count_of times.early.items a

-- how many firings of a a pass has
abbrev pub pass_of : Timetable → ℕ → ℕ
pass_of times a = count_of times.table.starts a

-- so many periods after its like in the first pass
abbrev pub looped_moment : Timetable → ℕ → ℕ → ℕ
looped_moment times a later =
    start_of times.table.starts a (later % pass_of times a) + later / pass_of times a * times.table.period

-- the start of firing k of a, read by number up to the entry and by passes after it
abbrev pub moment_of : Timetable → ℕ → ℕ → ℕ
moment_of times a k =
    if nat_lt k (before_of times a) then start_of times.early.items a k else looped_moment times a (k - before_of times a)

-- the two lists of a timetable have a row for each actor, of which that of the pass isn't empty
pub record IsFull (times : Timetable) : Type 0 where
  pub rows : length times.early.items ≡ length times.table.starts
  pub some : (a : ℕ) → a < length times.table.starts → 1 ≤ pass_of times a

-- the starts up to and with the entry of the loop of a lawful net whose actors have inputs, and the loop, with few starts
pub record IsTimetable (net : Net) (times : Timetable) : Type 0 where
  pub laws : Lawful net
  pub inputs : HasInputs net
  pub early : times.early.items ≡ earliest net (times.table.entry + 1)
  pub loop : IsLoopTable net times.table.entry times.table.period times.table.rounds times.table.before times.table.starts
  pub few : starts_by net (times.table.entry + times.table.period) ≤ STARTS

-- the firing without its start
abbrev pub firing_of : Start → FiringNo
firing_of x = record { actor = x.actor; number = x.number }

-- a firing of an actor with its start
pub record IsStart (net : Net) (times : Timetable) (x : Start) : Type 0 where
  pub actor : x.actor < length net.times
  pub moment : x.moment ≡ moment_of times x.actor x.number

-- when a firing ends
abbrev pub end_at : Net → Start → ℕ
end_at net x = x.moment + firing_time net (firing_of x)

-- the last firing of its actor in the first n rounds
pub record IsLastOf (net : Net) (times : Timetable) (n : ℕ) (x : Start) : Type 0 where
  pub start : IsStart net times x
  pub number : x.number + 1 ≡ n * slice_index net.round x.actor

-- of those of all actors the one that ends last, of several that do that of the least actor
pub record EndsLast (net : Net) (times : Timetable) (n : ℕ) (x : Start) : Type 0 where
  pub last : IsLastOf net times n x
  pub latest : (y : Start) → IsLastOf net times n y → end_at net y ≤ end_at net x
  pub least : (y : Start) → IsLastOf net times n y → end_at net y ≡ end_at net x → x.actor ≤ y.actor
