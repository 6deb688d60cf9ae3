-- Rows of starts: by actor its starts in self-timed execution, ascending.
use Rattle.std.specs.Prelude.{◌≡◌, ℕ, ◌+◌, ◌-◌, ◌≤◌, ◌<◌, List, [], length, drop, take, slice_index, slice_index_or}
use Rattle.sd_base.specs.Net.{Net}
use Rattle.sd_base.specs.Schedules.{count_of, start_of, time_of}
use Rattle.sd_base.specs.SelfTimed.{earliest}

-- the rows hold all starts up to and with a moment
pub record AreStarts (net : Net) (now : ℕ) (starts : List (List ℕ)) : Type 0 where
  pub rows : length starts ≡ length net.times
  pub all : (a : ℕ) → a < length net.times → count_of starts a ≡ count_of (earliest net (now + 1)) a
  pub moments : (a k : ℕ) → a < length net.times → k < count_of starts a → start_of starts a k ≡ start_of (earliest net (now + 1)) a k

-- some moments don't fall
abbrev pub Ascend : List ℕ → Type 0
Ascend moments = (j k : ℕ) → j ≤ k → k < length moments → slice_index moments j ≤ slice_index moments k

-- the ends of a row's firings don't fall
abbrev pub EndsRise : Net → ℕ → List ℕ → Type 0
EndsRise net a row = (j k : ℕ) → j ≤ k → k < length row → slice_index row j + time_of net a j ≤ slice_index row k + time_of net a k

-- the first n of some moments are up to and with one, the others after it
pub record AreBy (moments : List ℕ) (last n : ℕ) : Type 0 where
  pub within : n ≤ length moments
  pub by : 1 ≤ n → slice_index moments (n - 1) ≤ last
  pub after : (k : ℕ) → n ≤ k → k < length moments → last < slice_index moments k

-- by actor how many of the ascending starts in its row there are up to and with a moment
pub record AreCounts (starts : List (List ℕ)) (moment : ℕ) (counts : List ℕ) : Type 0 where
  pub rows : length counts ≡ length starts
  pub each : (a : ℕ) → a < length starts → AreBy (slice_index_or starts a []) moment (slice_index counts a)

-- of the first n actors the starts after the first ones, of which there are `before` by actor, up to those of which there are `until`
pub record AreBetween (starts : List (List ℕ)) (before until : List ℕ) (n : ℕ) (between : List (List ℕ)) : Type 0 where
  pub rows : length between ≡ n
  pub each : (a : ℕ) → a < n → slice_index_or between a [] ≡ take (slice_index until a - slice_index before a) (drop (slice_index before a) (slice_index_or starts a []))

-- the rows hold the starts up to and with a moment, but for the first ones, of which there are `before` by actor
pub record AreStartsAfter (net : Net) (now : ℕ) (before : List ℕ) (starts : List (List ℕ)) : Type 0 where
  pub rows : length starts ≡ length net.times
  pub all : (a : ℕ) → a < length net.times → count_of (earliest net (now + 1)) a ≡ slice_index before a + count_of starts a
  pub moments : (a k : ℕ) → a < length net.times → k < count_of starts a →
      start_of starts a k ≡ start_of (earliest net (now + 1)) a (slice_index before a + k)
