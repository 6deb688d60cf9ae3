-- The rows of the tokens on the channels of a net, as a firing takes and puts them.
use Rattle.std.specs.Prelude.{◌≡◌, ◌≢◌, ℕ, ◌≤◌, ◌<◌, List, [], ◌++◌, length, drop, replicate, slice_index, slice_index_or, Option, Some, None}
use Rattle.sd_base.specs.Net.{Net, channel_at}
use Rattle.sd_base.specs.Schedules.{phases_at}
use Rattle.token_matrix.specs.inside.LaterRows.{Reaches, AreWide}

-- each actor has one phase
abbrev pub HasOnePhase : Net → Type 0
HasOnePhase net = (a : ℕ) → a < length net.times → phases_at net a ≡ 1

-- by channel the rows of its tokens
abbrev pub line_at : List (List (List (Option ℕ))) → ℕ → List (List (Option ℕ))
line_at lines i = slice_index_or lines i []

-- the tokens that a firing takes from a channel
abbrev pub taken_on : Net → ℕ → ℕ
taken_on net i = slice_index (channel_at net i).taken 0

-- the tokens that a firing puts on a channel
abbrev pub made_on : Net → ℕ → ℕ
made_on net i = slice_index (channel_at net i).made 0

-- each channel has its rows, of one width, and the channels into a have enough for a firing
pub record AreReady (net : Net) (a size : ℕ) (lines : List (List (List (Option ℕ)))) : Type 0 where
  pub long : length lines ≡ length net.channels
  pub wide : (i : ℕ) → i < length net.channels → AreWide size (line_at lines i)
  pub enough : (i : ℕ) → i < length net.channels → (channel_at net i).target ≡ a → taken_on net i ≤ length (line_at lines i)

-- a firing of a has taken its tokens, and the other channels are as before
pub record AreTaken (net : Net) (a : ℕ) (old new : List (List (List (Option ℕ)))) : Type 0 where
  pub taken : (i : ℕ) → i < length net.channels → (channel_at net i).target ≡ a → line_at new i ≡ drop (taken_on net i) (line_at old i)
  pub others : (i : ℕ) → i < length net.channels → (channel_at net i).target ≢ a → line_at new i ≡ line_at old i

-- a row is the latest of those of the tokens that a firing of a takes
pub record IsLatest (net : Net) (a size : ℕ) (lines : List (List (List (Option ℕ)))) (row : List (Option ℕ)) : Type 0 where
  pub long : length row ≡ size
  pub after : (i k p e : ℕ) → i < length net.channels → (channel_at net i).target ≡ a → k < taken_on net i →
      slice_index_or (slice_index_or (line_at lines i) k []) p None ≡ Some e → Reaches row p e
  pub just : (p e : ℕ) → slice_index_or row p None ≡ Some e →
      (i : ℕ) × (k : ℕ) × (i < length net.channels) × ((channel_at net i).target ≡ a) × (k < taken_on net i)
      × (slice_index_or (slice_index_or (line_at lines i) k []) p None ≡ Some e)

-- a firing of a has put its tokens, all with one row, and the other channels are as before
pub record ArePut (net : Net) (a : ℕ) (row : List (Option ℕ)) (old new : List (List (List (Option ℕ)))) : Type 0 where
  pub put : (i : ℕ) → i < length net.channels → (channel_at net i).source ≡ a → line_at new i ≡ line_at old i ++ replicate (made_on net i) row
  pub others : (i : ℕ) → i < length net.channels → (channel_at net i).source ≢ a → line_at new i ≡ line_at old i
