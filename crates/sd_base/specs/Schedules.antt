-- Needs between firings, schedules, and the earliest schedule.
use Rattle.std.specs.Prelude.{◌≡◌, ℕ, ◌+◌, ◌≤◌, ◌<◌, List, [], length, slice_index, slice_index_or}
use Rattle.sd_base.specs.Net.{Channel, Net, channel_at, phase_entry, total}

-- the number of phases of actor a
abbrev pub phases_at : Net → ℕ → ℕ
phases_at net a = length (slice_index_or net.times a [])

-- the time of firing k of actor a
abbrev pub time_of : Net → ℕ → ℕ → ℕ
time_of net a k = phase_entry (slice_index_or net.times a []) k

-- firing j of the target of c needs firing m of its source: with the firings before m alone there aren't tokens enough
abbrev pub Needs : Channel → ℕ → ℕ → Type 0
Needs c j m = c.tokens + total c.made m < total c.taken (j + 1)

-- firing m of the source is the last one that firing j of the target needs
pub record LastNeed (c : Channel) (j m : ℕ) : Type 0 where
  pub needed : Needs c j m
  pub enough : total c.taken (j + 1) ≤ c.tokens + total c.made (m + 1)

-- n is the least number of firings of the source with which there are tokens enough for firing j of the target
pub record IsNeed (c : Channel) (j n : ℕ) : Type 0 where
  pub enough : total c.taken (j + 1) ≤ c.tokens + total c.made n
  pub least : (m : ℕ) → m < n → Needs c j m

-- with e firings of each actor ended, a channel into a lacks tokens for firing k of a
abbrev pub Lacks : Net → (ℕ → ℕ) → ℕ → ℕ → Type 0
Lacks net e a k =
    (i : ℕ) × (i < length net.channels) × ((channel_at net i).target ≡ a)
    × Needs (channel_at net i) k (e (channel_at net i).source)

-- a schedule: by actor the start moments of its firings, in order
abbrev pub Schedule : Type 0
Schedule = List (List ℕ)

abbrev pub count_of : Schedule → ℕ → ℕ
count_of s a = length (slice_index_or s a [])

abbrev pub start_of : Schedule → ℕ → ℕ → ℕ
start_of s a k = slice_index (slice_index_or s a []) k

-- a firing ends its time after its start
abbrev pub end_of : Net → Schedule → ℕ → ℕ → ℕ
end_of net s a k = start_of s a k + time_of net a k

-- the starts of no actor fall, and each firing that another one needs is there and has ended when that one starts
pub record Admissible (net : Net) (s : Schedule) : Type 0 where
  pub actors : length s ≡ length net.times
  pub rising : (a k : ℕ) → k + 1 < count_of s a → start_of s a k ≤ start_of s a (k + 1)
  pub fed : (i j m : ℕ) → i < length net.channels → j < count_of s (channel_at net i).target → Needs (channel_at net i) j m →
      (m < count_of s (channel_at net i).source)
      × (end_of net s (channel_at net i).source m ≤ start_of s (channel_at net i).target j)

-- the same, asked of the last firing alone that each firing needs
pub record AdmissibleByLast (net : Net) (s : Schedule) : Type 0 where
  pub actors : length s ≡ length net.times
  pub rising : (a k : ℕ) → k + 1 < count_of s a → start_of s a k ≤ start_of s a (k + 1)
  pub fed : (i j m : ℕ) → i < length net.channels → j < count_of s (channel_at net i).target → LastNeed (channel_at net i) j m →
      (m < count_of s (channel_at net i).source)
      × (end_of net s (channel_at net i).source m ≤ start_of s (channel_at net i).target j)

-- s has all firings that any admissible schedule starts before t, each no later, and no others
pub record Earliest (net : Net) (t : ℕ) (s : Schedule) : Type 0 where
  pub admissible : Admissible net s
  pub before : (a k : ℕ) → k < count_of s a → start_of s a k < t
  pub least : (other : Schedule) → Admissible net other → (a k : ℕ) → k < count_of other a → start_of other a k < t →
      (k < count_of s a) × (start_of s a k ≤ start_of other a k)

-- each actor has an input
abbrev pub HasInputs : Net → Type 0
HasInputs net = (a : ℕ) → a < length net.times → (i : ℕ) × (i < length net.channels) × ((channel_at net i).target ≡ a)
