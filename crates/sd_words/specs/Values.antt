-- Values, and the numbers among them.
use Rattle.std.specs.Prelude.{ℕ, Bool, false, not, ◌&&◌, ◌==◌, nat_le, nat_lt, List, [], ◌∷◌, length, Option, Some, None, if◌then◌else◌}
use Rattle.std.specs.List.{fold, list_all}
use Rattle.std.specs.Char.{is_ascii_digit}
use Rattle.sd_base.specs.Numbers.{with_digit}

-- a value isn't empty and doesn't begin with a hyphen
abbrev pub is_value : List ℕ → Bool
is_value [] = false
is_value (b ∷ bs) = not (b == 45)

-- the number that decimal digits spell; zeros may lead
abbrev pub number : List ℕ → ℕ
number digits = fold with_digit 0 digits

-- at least one byte, each a decimal digit
abbrev pub is_decimal : List ℕ → Bool
is_decimal text = nat_lt 0 (length text) && list_all is_ascii_digit text

-- the number of a text of decimal digits, where it lies between the two
unfoldable pub number_within : ℕ → ℕ → List ℕ → Option ℕ
number_within low high text =
    if is_decimal text && (nat_le low (number text) && nat_le (number text) high) then Some (number text) else None
