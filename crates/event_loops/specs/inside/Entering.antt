-- The events at which a loop is entered.
use Rattle.std.specs.Prelude.{◌≡◌, ℕ, ◌+◌, ◌-◌, ◌≤◌, ◌<◌, List, length, slice_index}

-- a moment is one of some ascending ones, from one on and up to another, and so is the one a period later; the one before it
-- isn't, or isn't a period before the one before that
pub record IsFirstTwice (moments : List ℕ) (from until period moment : ℕ) : Type 0 where
  pub place : ℕ
  pub twin : ℕ
  pub order : place < twin
  pub within : twin < length moments
  pub here : slice_index moments place ≡ moment
  pub there : slice_index moments twin ≡ moment + period
  pub late : from ≤ moment
  pub soon : moment ≤ until
  pub stop : 1 ≤ place → from ≤ slice_index moments (place - 1) → slice_index moments (place - 1) + period ≡ slice_index moments (twin - 1) → ⊥

-- some moments ascend, one of them is the earlier moment of a pair, and the last of them the later one
pub record ReachFrom (moments : List ℕ) (earlier later : ℕ) : Type 0 where
  pub rise : (i j : ℕ) → i < j → j < length moments → slice_index moments i < slice_index moments j
  pub place : ℕ
  pub below : place + 1 < length moments
  pub start : slice_index moments place ≡ earlier
  pub end : slice_index moments (length moments - 1) ≡ later
