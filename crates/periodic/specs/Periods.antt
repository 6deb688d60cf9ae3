-- Periodic schedules, and what it is that one holds on a net.
use Rattle.std.specs.Prelude.{◌≡◌, ℕ, ◌+◌, ◌*◌, ◌/◌, ◌%◌, ◌≤◌, ◌<◌, ◌↔◌, List, [], length, slice_index, slice_index_or}
use Rattle.sd_base.specs.Net.{Net}
use Rattle.sd_base.specs.Schedules.{Schedule, count_of, start_of, Admissible, HasInputs}
use Rattle.sd_base.specs.Rates.{HasLowerSide}
use Rattle.sd_base.specs.Lawful.{Lawful}

-- the start of firing k where the listed starts come again every period
abbrev pub start_in : ℕ → List ℕ → ℕ → ℕ
start_in period row k = slice_index row (k % length row) + k / length row * period

abbrev pub start_at : ℕ → List (List ℕ) → ℕ → ℕ → ℕ
start_at period starts a k = start_in period (slice_index_or starts a []) k

-- s has exactly the firings that start before t, under their own numbers
pub record IsCut (net : Net) (period : ℕ) (starts : List (List ℕ)) (t : ℕ) (s : Schedule) : Type 0 where
  pub actors : length s ≡ length net.times
  pub counts : (a k : ℕ) → a < length net.times → k < count_of s a ↔ start_at period starts a k < t
  pub moments : (a k : ℕ) → a < length net.times → k < count_of s a → start_of s a k ≡ start_at period starts a k

-- the listed starts are those of so many rounds of each actor
pub record HasRounds (net : Net) (rounds : ℕ) (starts : List (List ℕ)) : Type 0 where
  pub actors : length starts ≡ length net.times
  pub whole : (a : ℕ) → a < length net.times → count_of starts a ≡ rounds * slice_index net.round a

-- the periodic schedule holds on the net: at each moment what has started before it is an admissible schedule
pub record Holds (net : Net) (period rounds : ℕ) (starts : List (List ℕ)) : Type 0 where
  pub passes : 1 ≤ period
  pub turns : 1 ≤ rounds
  pub listed : HasRounds net rounds starts
  pub cuts : (t : ℕ) → (s : Schedule) × IsCut net period starts t s × Admissible net s

-- where a periodic schedule holds, the earliest schedules complete no fewer rounds per time unit, up to a constant
abbrev pub RoundsBelow : Type 0
RoundsBelow =
    (net : Net) (period rounds : ℕ) (starts : List (List ℕ)) → Lawful net → HasInputs net → Holds net period rounds starts → HasLowerSide net rounds period
