-- The loop of self-timed execution, and the rate of a net.
use Rattle.std.specs.Prelude.{◌≡◌, ◌≢◌, ℕ, ◌+◌, ◌*◌, ◌≤◌, ◌<◌, List, [], length, slice_index, slice_index_or, count_by, nat_lt}
use Rattle.std.specs.Int.{IsGcd}
use Rattle.sd_base.specs.Net.{Net}
use Rattle.sd_base.specs.Schedules.{Schedule, count_of, start_of, Admissible, Earliest}
use Rattle.sd_base.specs.SelfTimed.{earliest, IsEvent, shape_at}

-- the first shape that comes again stands at entry, and first comes again a period later
pub record IsLoop (net : Net) (entry period : ℕ) : Type 0 where
  pub enters : IsEvent net entry
  pub repeats : IsEvent net (entry + period)
  pub passes : 1 ≤ period
  pub same : shape_at net entry ≡ shape_at net (entry + period)
  pub first : (t u : ℕ) → IsEvent net t → IsEvent net u → t < u → u < entry + period → shape_at net t ≢ shape_at net u

-- the firings round the loop: by actor how many have started when the entry's starts are done, and the starts after it up to and
-- with the first repeat, which are those of whole rounds
pub record IsLoopTable (net : Net) (entry period rounds : ℕ) (before : List ℕ) (starts : List (List ℕ)) : Type 0 where
  pub loop : IsLoop net entry period
  pub turns : 1 ≤ rounds
  pub actors : length before ≡ length net.times
  pub rows : length starts ≡ length net.times
  pub earlier : (a : ℕ) → a < length net.times → slice_index before a ≡ count_of (earliest net (entry + 1)) a
  pub whole : (a : ℕ) → a < length net.times → count_of starts a ≡ rounds * slice_index net.round a
  pub all : (a : ℕ) → a < length net.times → count_of (earliest net (entry + period + 1)) a ≡ slice_index before a + count_of starts a
  pub moments : (a k : ℕ) → a < length net.times → k < count_of starts a →
      start_of starts a k ≡ start_of (earliest net (entry + period + 1)) a (slice_index before a + k)

-- p rounds in q time units, up to b: no admissible schedule has more starts before any moment, and the earliest one no fewer
pub record RateBy (net : Net) (p q b : ℕ) : Type 0 where
  pub above : (s : Schedule) (t a : ℕ) → Admissible net s → a < length net.times →
      q * count_by (λ x. nat_lt x t) (slice_index_or s a []) ≤ p * slice_index net.round a * t + b
  pub below : (t : ℕ) → (s : Schedule) × Earliest net t s
      × ((a : ℕ) → a < length net.times → p * slice_index net.round a * t ≤ q * count_of s a + b)

-- up to a constant, no admissible schedule has more starts before any moment than p rounds in q time units
abbrev pub HasUpperSide : Net → ℕ → ℕ → Type 0
HasUpperSide net p q =
    (b : ℕ) × ((s : Schedule) (t a : ℕ) → Admissible net s → a < length net.times →
    q * count_by (λ x. nat_lt x t) (slice_index_or s a []) ≤ p * slice_index net.round a * t + b)

-- up to a constant, the earliest schedules have no fewer starts than so many rounds in each period
abbrev pub HasLowerSide : Net → ℕ → ℕ → Type 0
HasLowerSide net rounds period =
    (b : ℕ) × ((t : ℕ) → (s : Schedule) × Earliest net t s
    × ((a : ℕ) → a < length net.times → rounds * slice_index net.round a * t ≤ period * count_of s a + b))

-- the rate of the net is p/q rounds per time unit, in lowest terms
pub record Rate (net : Net) (p q : ℕ) : Type 0 where
  pub positive : 1 ≤ q
  pub lowest : IsGcd p q 1
  pub slack : ℕ
  pub bounds : RateBy net p q slack
