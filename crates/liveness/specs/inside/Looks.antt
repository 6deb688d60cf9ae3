-- The actors that are to be looked at while a round is fired.
use Rattle.std.specs.Prelude.{◌≡◌, ◌≢◌, ℕ, ◌<◌, Bool, true, false, List, All, Contains, length, slice_index, slice_index_or}
use Rattle.sd_base.specs.Net.{Net, channel_at}
use Rattle.liveness.specs.inside.UntimedRuns.{IsStopped}

abbrev pub flag_of : List Bool → ℕ → Bool
flag_of flagged a = slice_index_or flagged a false

-- each flagged actor is listed
pub record AreFlags (net : Net) (flagged : List Bool) (stack : List ℕ) : Type 0 where
  pub long : length flagged ≡ length net.times
  pub within : All (λ a. a < length net.times) stack
  pub listed : (a : ℕ) → flag_of flagged a ≡ true → Contains stack a

-- the targets of these channels other than t are flagged, and no flag is taken off
pub record FlagsTargets (net : Net) (t : ℕ) (channels : List ℕ) (old new : List Bool) : Type 0 where
  pub kept : (a : ℕ) → flag_of old a ≡ true → flag_of new a ≡ true
  pub there : (j : ℕ) → j < length channels → (channel_at net (slice_index channels j)).target ≢ t → flag_of new (channel_at net (slice_index channels j)).target ≡ true

-- each actor that isn't flagged has fired a whole round, or lacks tokens
pub record LeavesFlags (net : Net) (counts : List ℕ) (flagged : List Bool) (stack : List ℕ) : Type 0 where
  pub flags : AreFlags net flagged stack
  pub stopped : (a : ℕ) → a < length net.times → flag_of flagged a ≡ false → IsStopped net (slice_index counts) a
