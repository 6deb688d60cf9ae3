-- What the starts of an actor at one moment do.
use Rattle.std.specs.Prelude.{◌≡◌, ℕ, ◌+◌, ◌*◌, ◌≤◌, ◌<◌, List, length, slice_index}
use Rattle.sd_base.specs.Net.{Net, channel_at, total}
use Rattle.sd_base.specs.Schedules.{time_of}
use Rattle.firing.specs.Wiring.{LacksNow, TakesTokens}

-- n firings of a from number k on, started at a moment, add their ends
pub record AddsEnds (net : Net) (a moment k n : ℕ) (old new : List ℕ) : Type 0 where
  pub long : length new ≡ length old + n
  pub kept : (j : ℕ) → j < length old → slice_index new j ≡ slice_index old j
  pub added : (j : ℕ) → j < n → slice_index new (length old + j) ≡ moment + time_of net a (k + j)

-- the channels into a have the tokens for n firings of a from number k on
abbrev pub Feeds : Net → List ℕ → ℕ → ℕ → ℕ → Type 0
Feeds net tokens a k n =
    (i : ℕ) → i < length net.channels → (channel_at net i).target ≡ a →
    total (channel_at net i).taken (k + n) ≤ slice_index tokens i + total (channel_at net i).taken k

-- channel i into a, which has one phase, has too few tokens for more than n firings
abbrev pub FeedsNoMore : Net → List ℕ → ℕ → ℕ → ℕ → Type 0
FeedsNoMore net tokens a n i =
    (i < length net.channels) × ((channel_at net i).target ≡ a) × (slice_index tokens i < (n + 1) * slice_index (channel_at net i).taken 0)

-- n firings of a from number k on start at a moment, and no more can, for want of tokens on channel i
pub record StartsAll (net : Net) (a moment k n i : ℕ) (tokens left runs more : List ℕ) : Type 0 where
  pub takes : TakesTokens net a k n tokens left
  pub ends : AddsEnds net a moment k n runs more
  pub lacks : LacksNow net left a (k + n) i

-- more firings of a can start than there is room for
abbrev pub Overfills : Net → List ℕ → ℕ → ℕ → ℕ → Type 0
Overfills net tokens a k room = (n : ℕ) × (room < n) × Feeds net tokens a k n
