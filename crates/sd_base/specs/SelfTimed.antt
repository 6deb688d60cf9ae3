-- Self-timed execution: the earliest schedule made moment by moment, its event moments, and the shape at a moment.
use Rattle.std.specs.Prelude.{◌≡◌, ℕ, zero, suc, ◌+◌, ◌-◌, ◌*◌, ◌%◌, ◌<◌, ◌⊎◌, Bool, true, false, not, ◌&&◌, ◌||◌, List, [], ◌∷◌, ◌++◌, map, sum, length, replicate, if◌then◌else◌, ◌==◌, nat_le}
use Rattle.std.specs.List.{range_with_len}
use Rattle.sd_base.specs.Net.{Channel, Net, total}
use Rattle.sd_base.specs.Schedules.{Schedule, count_of, end_of, phases_at}

-- of the first n firings of a, those that have ended by t
abbrev pub ended_among : Net → ℕ → Schedule → ℕ → ℕ → ℕ
ended_among net t s a zero = 0
ended_among net t s a (suc n) = ended_among net t s a n + (if nat_le (end_of net s a n) t then 1 else 0)

-- how many firings of a have ended by t
unfoldable pub ended_by : Net → ℕ → Schedule → ℕ → ℕ
ended_by net t s a = ended_among net t s a (count_of s a)

-- with e firings of each actor ended, no channel into a lacks tokens for firing k of a
abbrev pub allows : List Channel → (ℕ → ℕ) → ℕ → ℕ → Bool
allows [] e a k = true
allows (c ∷ cs) e a k = (not (c.target == a) || nat_le (total c.taken (k + 1)) (c.tokens + total c.made (e c.source))) && allows cs e a k

-- the first firing of a from k on that a channel doesn't allow, sought over as many firings as the fuel says
unfoldable pub first_held_back : List Channel → (ℕ → ℕ) → ℕ → ℕ → ℕ → ℕ
first_held_back cs e a zero k = k
first_held_back cs e a (suc fuel) k = if allows cs e a k then first_held_back cs e a fuel (suc k) else k

-- more firings than the tokens of the channels can feed
unfoldable pub more_than_fed : List Channel → (ℕ → ℕ) → ℕ
more_than_fed [] e = 0
more_than_fed (c ∷ cs) e = (c.tokens + total c.made (e c.source) + 1) * length c.taken + more_than_fed cs e

-- the rows of the actors from a on, each with a start at t for each firing that can start then
unfoldable pub started_at : List Channel → (ℕ → ℕ) → ℕ → ℕ → List (List ℕ) → List (List ℕ)
started_at cs e t a [] = []
started_at cs e t a (row ∷ rows) =
    (row ++ replicate (first_held_back cs e a (more_than_fed cs e) (length row) - length row) t) ∷ started_at cs e t (suc a) rows

-- the earliest schedule of all starts before t
unfoldable pub earliest : Net → ℕ → Schedule
earliest net zero = map (λ row. []) net.times
earliest net (suc t) = started_at net.channels (ended_by net t (earliest net t)) t 0 (earliest net t)

-- some firing of the earliest schedule ends at t, or t is 0
abbrev pub IsEvent : Net → ℕ → Type 0
IsEvent net t = (t ≡ 0) ⊎ ((a : ℕ) × (k : ℕ) × (k < count_of (earliest net t) a) × (end_of net (earliest net t) a k ≡ t))

-- one of the first n firings of a ends at t
abbrev pub ends_among : Net → ℕ → Schedule → ℕ → ℕ → Bool
ends_among net t s a zero = false
ends_among net t s a (suc n) = (end_of net s a n == t) || ends_among net t s a n

-- a firing of one of the first n actors ends at t
abbrev pub ends_at : Net → ℕ → Schedule → ℕ → Bool
ends_at net t s zero = false
ends_at net t s (suc a) = ends_among net t s a (count_of s a) || ends_at net t s a

-- the test of an event moment
abbrev pub is_event : Net → ℕ → Bool
is_event net t = (t == 0) || ends_at net t (earliest net t) (length net.times)

-- how many event moments there are up to and with t
unfoldable pub events_by : Net → ℕ → ℕ
events_by net zero = 1
events_by net (suc t) = events_by net t + (if is_event net (suc t) then 1 else 0)

-- how many firings have started up to and with t
abbrev pub starts_by : Net → ℕ → ℕ
starts_by net t = sum (map length (earliest net (t + 1)))

-- what stands at a moment: by channel the tokens, by actor the phase of its next firing, and by actor the remaining times
-- of its running firings
pub record Shape : Type 0 where
  pub tokens : List ℕ
  pub phases : List ℕ
  pub remaining : List (List ℕ)

-- the remaining times of the firings of a in s that haven't ended by t
abbrev pub remaining_of : Net → ℕ → Schedule → ℕ → List ℕ
remaining_of net t s a =
    map (λ k. end_of net s a k - t) (range_with_len (ended_by net t s a) (count_of s a - ended_by net t s a))

-- the tokens on a channel after the starts of s, with what has ended by t
abbrev pub tokens_of : Net → ℕ → Schedule → Channel → ℕ
tokens_of net t s c = c.tokens + total c.made (ended_by net t s c.source) - total c.taken (count_of s c.target)

-- the shape at t after the starts of s
abbrev pub shape_of : Net → ℕ → Schedule → Shape
shape_of net t s = record {
  tokens = map (tokens_of net t s) net.channels;
  phases = map (λ a. count_of s a % phases_at net a) (range_with_len 0 (length net.times));
  remaining = map (remaining_of net t s) (range_with_len 0 (length net.times));
}

-- the shape of self-timed execution at t, after the starts of that moment
abbrev pub shape_at : Net → ℕ → Shape
shape_at net t = shape_of net t (earliest net (t + 1))
