-- The greatest numbers that words of a line's widths hold.
use Rattle.std.specs.Prelude.{ℕ}

-- of 32 bits
abbrev pub SHORT_MAX : ℕ
SHORT_MAX = 4294967295

-- of 64 bits
abbrev pub LONG_MAX : ℕ
LONG_MAX = 18446744073709551615

-- of 128 bits with a sign
abbrev pub SIGNED_MAX : ℕ
SIGNED_MAX = 170141183460469231731687303715884105727

-- the size of the least of these, which is below zero
abbrev pub SIGNED_MIN : ℕ
SIGNED_MIN = 170141183460469231731687303715884105728
