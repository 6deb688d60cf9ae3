-- Decimal numbers as texts.
use Rattle.std.specs.Prelude.{ℕ, ◌<◌, ◌≤◌, List, length, slice_index}

-- a byte that is a decimal digit
pub record IsDigit (b : ℕ) : Type 0 where
  pub low : 48 ≤ b
  pub high : b ≤ 57

-- digits, at least one, without leading zeros
pub record IsNumeral (text : List ℕ) : Type 0 where
  pub some : 0 < length text
  pub digits : (k : ℕ) → k < length text → IsDigit (slice_index text k)
  pub zeros : 1 < length text → 48 < slice_index text 0
