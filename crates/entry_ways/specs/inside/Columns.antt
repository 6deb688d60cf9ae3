-- How long after one shared token each firing of a round starts at the least.
use Rattle.std.specs.Prelude.{◌≡◌, ◌≢◌, ℕ, ◌+◌, ◌≤◌, ◌<◌, ◌⊎◌, ◌↔◌, Bool, IsTrue, List, [], ◌∷◌, ◌++◌, length, slice_index, slice_index_or, max, Option, None, Some}
use Rattle.sd_base.specs.Ranges.{ROUND_START_BOUND}
use Rattle.sd_base.specs.Net.{Net, channel_at, total}
use Rattle.sd_base.specs.Schedules.{phases_at, time_of}
use Rattle.token_matrix.specs.Stamps.{IsTakenBy, IsPutBy}
use Rattle.token_matrix.specs.Ways.{IsChain}

-- by actor and firing a start, or none
abbrev pub start_in : List (List (Option ℕ)) → ℕ → ℕ → Option ℕ
start_in rows a j = slice_index_or (slice_index_or rows a []) j None

-- the first v firings of each actor start so long after shared token p as the longest chain from it takes, or no chain leads there
pub record IsColumn (net : Net) (first : ℕ → ℕ) (p : ℕ) (v : ℕ → ℕ) (rows : List (List (Option ℕ))) : Type 0 where
  pub actors : length rows ≡ length net.times
  pub whole : (a : ℕ) → a < length net.times → length (slice_index_or rows a []) ≡ v a
  pub just : (a j t : ℕ) → a < length net.times → j < v a → start_in rows a j ≡ Some t → (cs : List ℕ) × IsChain net first p a j t cs
  pub top : (a j t : ℕ) (cs : List ℕ) → a < length net.times → j < v a → IsChain net first p a j t cs → (d : ℕ) × (start_in rows a j ≡ Some d) × (t ≤ d)

-- firing j comes by a token on channel i so long after token p: it takes p itself, or a token of a firing with a start
abbrev pub IsLink : Net → (ℕ → ℕ) → ℕ → List (List (Option ℕ)) → ℕ → ℕ → ℕ → Type 0
IsLink net first p rows i j t =
    ((m : ℕ) × IsTakenBy (channel_at net i) m j × (m < (channel_at net i).tokens) × (p ≡ first i + m) × (t ≡ 0))
    ⊎ ((m : ℕ) × (k : ℕ) × (d : ℕ) × IsTakenBy (channel_at net i) m j × IsPutBy (channel_at net i) m k
    × (start_in rows (channel_at net i).source k ≡ Some d) × (t ≡ d + time_of net (channel_at net i).source k))

-- the links of all channels into an actor to its firing j
abbrev pub IsLinkInto : Net → (ℕ → ℕ) → ℕ → List (List (Option ℕ)) → ℕ → ℕ → ℕ → Type 0
IsLinkInto net first p rows a j t = (i : ℕ) × (i < length net.channels) × ((channel_at net i).target ≡ a) × IsLink net first p rows i j t

-- the longest of the links of which P holds, or there is none
pub record IsLongest (P : ℕ → Type 0) (start : Option ℕ) : Type 0 where
  pub just : (t : ℕ) → start ≡ Some t → P t
  pub top : (t : ℕ) → P t → (d : ℕ) × (start ≡ Some d) × (t ≤ d)

-- the later of two starts
abbrev pub later : Option ℕ → Option ℕ → Option ℕ
later None y = y
later (Some x) None = Some x
later (Some x) (Some y) = Some (max x y)

-- a start some time later
abbrev pub later_by : ℕ → Option ℕ → Option ℕ
later_by time None = None
later_by time (Some t) = Some (t + time)

-- the end of one of the firings of the source of channel i from first to end
abbrev pub IsEndIn : Net → List (List (Option ℕ)) → ℕ → ℕ → ℕ → ℕ → Type 0
IsEndIn net rows i first end t =
    (k : ℕ) × (d : ℕ) × (first ≤ k) × (k < end) × (start_in rows (channel_at net i).source k ≡ Some d) × (t ≡ d + time_of net (channel_at net i).source k)

-- the links of the first n channels of a list
abbrev pub IsLinkOf : Net → (ℕ → ℕ) → ℕ → List (List (Option ℕ)) → List ℕ → ℕ → ℕ → ℕ → Type 0
IsLinkOf net first p rows channels n j t = (l : ℕ) × (l < n) × IsLink net first p rows (slice_index channels l) j t

-- a firing of actor a has got a start, and all others are as before
pub record HasStart (a : ℕ) (start : Option ℕ) (old new : List (List (Option ℕ))) : Type 0 where
  pub long : length new ≡ length old
  pub here : slice_index_or new a [] ≡ slice_index_or old a [] ++ start ∷ []
  pub others : (b : ℕ) → b ≢ a → slice_index_or new b [] ≡ slice_index_or old b []

-- the firings of a channel's source from first to end put the tokens that firing j of its target takes, but initial ones
pub record AreProducers (net : Net) (number : ℕ → ℕ) (p i j : ℕ) (has : Bool) (first end : ℕ) : Type 0 where
  pub token : IsTrue has ↔ ((m : ℕ) × IsTakenBy (channel_at net i) m j × (m < (channel_at net i).tokens) × (p ≡ number i + m))
  pub each : (k : ℕ) → first ≤ k → k < end → (m : ℕ) × IsTakenBy (channel_at net i) m j × IsPutBy (channel_at net i) m k
  pub all : (m k : ℕ) → IsTakenBy (channel_at net i) m j → IsPutBy (channel_at net i) m k → (first ≤ k) × (k < end)

-- a net in which each actor has one phase, and by channel the number of its first shared token
pub record IsTraceable (net : Net) (firsts : List ℕ) : Type 0 where
  pub phases : (a : ℕ) → a < length net.times → phases_at net a ≡ 1
  pub long : length firsts ≡ length net.channels

-- no start is later than b
abbrev pub AreUpTo : ℕ → List (List (Option ℕ)) → Type 0
AreUpTo b rows = (a j t : ℕ) → start_in rows a j ≡ Some t → t ≤ b

-- each start leaves room for the time of a firing in a number of 128 bits
abbrev pub AreSmall : List (List (Option ℕ)) → Type 0
AreSmall rows = (a j t : ℕ) → start_in rows a j ≡ Some t → t < ROUND_START_BOUND

-- the firings that put what firing j of actor a takes from channel i have their starts, or none
abbrev pub IsFedBy : Net → List (List (Option ℕ)) → ℕ → ℕ → Type 0
IsFedBy net rows i j = total (channel_at net i).taken (j + 1) ≤ (channel_at net i).tokens + total (channel_at net i).made (length (slice_index_or rows (channel_at net i).source []))

-- the shared token is one of those that are there and taken
pub record IsAmong (first token from to tokens : ℕ) : Type 0 where
  pub past : first ≤ token
  pub low : first + from ≤ token
  pub high : token < first + to
  pub there : token < first + tokens
