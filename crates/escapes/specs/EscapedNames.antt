-- Names as lines show them.
use Rattle.std.specs.Prelude.{ℕ, ◌+◌, ◌-◌, ◌/◌, ◌%◌, Bool, ◌&&◌, ◌||◌, ◌==◌, nat_le, nat_lt, List, [], ◌∷◌, if◌then◌else◌}
use Rattle.std.specs.List.{flat_map}

-- a letter, a digit, `_`, `-`, `.` or `:` is printed bare
abbrev pub is_bare : ℕ → Bool
is_bare b = (nat_le 97 b && nat_le b 122) || (nat_le 65 b && nat_le b 90) || (nat_le 48 b && nat_le b 57) || (b == 95 || b == 45) || (b == 46 || b == 58)

-- an upper-case hexadecimal digit
abbrev pub hex_digit : ℕ → ℕ
hex_digit n = if nat_lt n 10 then 48 + n else 65 + (n - 10)

-- any other byte is printed as `%` and its two hexadecimal digits
unfoldable pub escaped_byte : ℕ → List ℕ
escaped_byte b = if is_bare b then b ∷ [] else 37 ∷ hex_digit (b / 16) ∷ hex_digit (b % 16) ∷ []

unfoldable pub escaped_name : List ℕ → List ℕ
escaped_name name = flat_map escaped_byte name
