-- Names as words spell them.
use Rattle.std.specs.Prelude.{ℕ, ◌<◌, Bool, true, false, ◌&&◌, List, [], ◌∷◌, length, nat_lt, Option, Some, None, if◌then◌else◌}
use Rattle.std.specs.Str.{is_utf8}
use Rattle.percent_encoding.specs.Percent.{is_escape, percent_decode}
use Rattle.escapes.specs.EscapedNames.{is_bare}

-- each byte is one that is printed bare, or one of an escape: `%` and two hexadecimal digits
unfoldable pub is_escaped : List ℕ → Bool
is_escaped [] = true
is_escaped (b ∷ []) = is_bare b
is_escaped (b ∷ c ∷ []) = is_bare b && is_bare c
is_escaped (b ∷ high ∷ low ∷ rest) = if is_escape b high low then is_escaped rest else is_bare b && is_escaped (high ∷ low ∷ rest)

-- the name that a text spells; it isn't empty
unfoldable pub unescaped : List ℕ → Option (List ℕ)
unescaped text = if nat_lt 0 (length text) && (is_escaped text && is_utf8 (percent_decode text)) then Some (percent_decode text) else None
