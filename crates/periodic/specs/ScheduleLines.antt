-- A periodic schedule, actor by actor.
use Rattle.std.specs.Prelude.{◌≡◌, ℕ, ◌+◌, ◌-◌, ◌*◌, ◌≤◌, ◌<◌, ◌↔◌, List, [], length, slice_index, slice_index_or}
use Rattle.sd_base.specs.Net.{Net, channel_at}
use Rattle.sd_base.specs.Schedules.{LastNeed, count_of, time_of}
use Rattle.sd_base.specs.Lawful.{Lawful}
use Rattle.periodic.specs.Periods.{start_at, Holds}

-- no start falls, from the last one to the first of the next period too
pub record Rises (period : ℕ) (row : List ℕ) : Type 0 where
  pub within : (k : ℕ) → k + 1 < length row → slice_index row k ≤ slice_index row (k + 1)
  pub over : slice_index row (length row - 1) ≤ slice_index row 0 + period

-- the listed starts of actor a are those of so many rounds
abbrev pub HasTurn : Net → ℕ → List (List ℕ) → ℕ → Type 0
HasTurn net rounds starts a = count_of starts a ≡ rounds * slice_index net.round a

-- on channel i, in every period, the last need of each firing ends before the firing starts
abbrev pub IsMet : Net → ℕ → List (List ℕ) → ℕ → Type 0
IsMet net period starts i = (j n : ℕ) → LastNeed (channel_at net i) j n →
    start_at period starts (channel_at net i).source n + time_of net (channel_at net i).source n ≤ start_at period starts (channel_at net i).target j

-- the line of actor a is right: its starts are those of a turn, none falls, and its needs are met, but for those of an actor whose
-- own line isn't that of a turn
pub record LineHolds (net : Net) (period rounds : ℕ) (starts : List (List ℕ)) (a : ℕ) : Type 0 where
  pub turn : HasTurn net rounds starts a
  pub rises : Rises period (slice_index_or starts a [])
  pub met : (i : ℕ) → i < length net.channels → (channel_at net i).target ≡ a → HasTurn net rounds starts (channel_at net i).source → IsMet net period starts i

-- all lines are right exactly where the schedule holds
abbrev pub LinesDecide : Type 0
LinesDecide = (net : Net) (period rounds : ℕ) (starts : List (List ℕ)) → Lawful net → 1 ≤ period → 1 ≤ rounds → length starts ≡ length net.times
    → ((a : ℕ) → a < length net.times → LineHolds net period rounds starts a) ↔ Holds net period rounds starts
