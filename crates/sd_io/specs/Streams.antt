-- What reading a stream within a limit gives.
use Rattle.std.specs.Prelude.{◌≡◌, ℕ, nat_le, if◌then◌else◌, List, length, ⊤, Option, None, Some}

-- where the stream's bytes are known: all of them, if they are within the limit, and else none
abbrev pub IsWithin : Option (List ℕ) → ℕ → Option (List ℕ) → Type 0
IsWithin None limit given = ⊤
IsWithin (Some bytes) limit given = given ≡ (if nat_le (length bytes) limit then Some bytes else None)
