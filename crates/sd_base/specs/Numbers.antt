-- Whole numbers: the least common multiple, and digits.
use Rattle.std.specs.Prelude.{ℕ, ◌+◌, ◌-◌, ◌*◌, ◌<◌}
use Rattle.std.specs.Int.{◌∣◌}

-- m is the least common multiple of a and b: both divide it, and it divides each number that both divide
abbrev pub IsLcm : ℕ → ℕ → ℕ → Type 0
IsLcm a b m = (0 < m) × (a ∣ m) × (b ∣ m) × ((n : ℕ) → a ∣ n → b ∣ n → m ∣ n)

-- each common multiple of a and b but 0 is above the limit
abbrev pub IsAboveLimit : ℕ → ℕ → ℕ → Type 0
IsAboveLimit a b limit = (n : ℕ) → 0 < n → a ∣ n → b ∣ n → limit < n

-- a number with one more digit, which is a byte
abbrev pub with_digit : ℕ → ℕ → ℕ
with_digit n b = n * 10 + (b - 48)
