-- Rows of starts that hold all up to a moment.
use Rattle.std.specs.Prelude.{◌≡◌, ℕ, ◌<◌, List, [], length, take, slice_index_or}
use Rattle.sd_base.specs.Schedules.{count_of, start_of}
use Rattle.loops.specs.StartRows.{AreBy}

-- a moment before the last start of each row
abbrev pub GoPast : List (List ℕ) → ℕ → Type 0
GoPast starts moment = (a : ℕ) → a < length starts → (k : ℕ) × (k < count_of starts a) × (moment < start_of starts a k)

-- by actor the first starts of its row, those up to and with a moment
pub record AreStartsBy (starts : List (List ℕ)) (moment : ℕ) (known : List (List ℕ)) : Type 0 where
  pub rows : length known ≡ length starts
  pub each : (a : ℕ) → a < length starts → AreBy (slice_index_or starts a []) moment (count_of known a)
  pub first : (a : ℕ) → a < length starts → slice_index_or known a [] ≡ take (count_of known a) (slice_index_or starts a [])
