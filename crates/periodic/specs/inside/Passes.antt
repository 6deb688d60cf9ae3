-- One pass round the loop of self-timed execution, moved back to the first turn of each actor.
use Rattle.std.specs.Prelude.{◌≡◌, ℕ, ◌+◌, ◌-◌, ◌*◌, ◌/◌, ◌≤◌, ◌<◌, List, [], length, slice_index, slice_index_or}
use Rattle.sd_base.specs.declared.limits.TheConstants.{STARTS, START}
use Rattle.sd_base.specs.Schedules.{count_of}
use Rattle.firing.specs.declared.table.LoopTable.{LoopTable}

-- how many whole turns of so many firings lie before the one at place k of its turn, among as many firings from number
-- `before` on
abbrev pub turns_back : ℕ → ℕ → ℕ → ℕ
turns_back before turn k = (before + (turn - 1 - k)) / turn

-- the start of that firing, earlier by a period for each of these turns, and later by `up`
unfoldable pub back_start : ℕ → ℕ → List ℕ → ℕ → ℕ → ℕ
back_start period before pass up k =
    slice_index pass (turns_back before (length pass) k * length pass + k - before) + up - turns_back before (length pass) k * period

-- the same by actor
abbrev pub back_at : LoopTable → ℕ → ℕ → ℕ → ℕ
back_at table up a k = back_start table.period (slice_index table.before a) (slice_index_or table.starts a []) up k

-- by place the moved starts of a pass are those of `late`, each later by `late_up`, and then those of `early`, later by `early_up`
pub record AreParts (period before : ℕ) (pass : List ℕ) (up : ℕ) (late : List ℕ) (late_up : ℕ) (early : List ℕ) (early_up : ℕ) : Type 0 where
  pub whole : length late + length early ≡ length pass
  pub some_late : 0 < length late
  pub first : (k : ℕ) → k < length late → slice_index late k + late_up ≡ back_start period before pass up k
  pub last : (k : ℕ) → k < length early → slice_index early k + early_up ≡ back_start period before pass up (length late + k)

-- x is the least of the numbers that f gives below n
pub record IsLeast (f : ℕ → ℕ) (n x : ℕ) : Type 0 where
  pub below : (k : ℕ) → k < n → x ≤ f k
  pub place : ℕ
  pub within : place < n
  pub there : f place ≡ x

-- x is the least of the moved starts of the first n actors
pub record IsLeastStart (table : LoopTable) (up n x : ℕ) : Type 0 where
  pub below : (a k : ℕ) → a < n → k < count_of table.starts a → x ≤ back_at table up a k
  pub actor : ℕ
  pub place : ℕ
  pub known : actor < n
  pub within : place < count_of table.starts actor
  pub there : back_at table up actor place ≡ x

-- no firing of a pass of the first n actors has more whole turns before it
abbrev pub HasTurns : LoopTable → ℕ → ℕ → Type 0
HasTurns table n most = (a : ℕ) → a < n → turns_back (slice_index table.before a) (count_of table.starts a) 0 ≤ most

-- each actor has some start in a pass, and few before it
pub record HasPasses (table : LoopTable) : Type 0 where
  pub actors : length table.before ≡ length table.starts
  pub some_actor : 0 < length table.starts
  pub some_start : (a : ℕ) → a < length table.starts → 0 < count_of table.starts a
  pub few : (a : ℕ) → a < length table.starts → slice_index table.before a ≤ STARTS

-- the row is the starts of actor a in a pass by place, each moved back to the first turn and less by `down`
pub record IsMoved (table : LoopTable) (up down a : ℕ) (row : List ℕ) : Type 0 where
  pub count : length row ≡ count_of table.starts a
  pub moved : (k : ℕ) → k < count_of table.starts a → slice_index row k + down ≡ back_at table up a k
  pub small : (k : ℕ) → slice_index row k ≤ START

-- so are all rows, and the least start is 0
pub record AreMovedBack (table : LoopTable) (rows : List (List ℕ)) : Type 0 where
  pub most : ℕ
  pub turns : HasTurns table (length table.starts) most
  pub down : ℕ
  pub least : IsLeastStart table (most * table.period) (length table.starts) down
  pub actors : length rows ≡ length table.starts
  pub each : (a : ℕ) → a < length table.starts → IsMoved table (most * table.period) down a (slice_index_or rows a [])
