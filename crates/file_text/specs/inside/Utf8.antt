-- UTF-8 byte by byte.
use Rattle.std.specs.Prelude.{ℕ, zero, suc, nat_lt, nat_le, ◌&&◌, if◌then◌else◌, List, [], ◌∷◌}
use Rattle.std.specs.Prelude.{Option, Some, None}
use Rattle.std.specs.Str.Lossy.{second_byte_min, second_byte_max}
use Rattle.file_text.specs.declared.due.Due.{Due}
use Rattle.file_text.specs.declared.due.Due.TheVariants.{Nothing, Byte}

-- what is due after the first byte of a character that has this many bytes behind its second one
abbrev pub first_due : ℕ → ℕ → Due
first_due b more = Byte (second_byte_min b) (second_byte_max b) more

-- what is due after any first byte
abbrev pub due_after_first : ℕ → Option Due
due_after_first b = if nat_lt b 0x80 then Some Nothing
    else (if nat_lt b 0xC2 then None
    else (if nat_lt b 0xE0 then Some (first_due b 0)
    else (if nat_lt b 0xF0 then Some (first_due b 1)
    else (if nat_lt b 0xF5 then Some (first_due b 2) else None))))

-- what is due after one more of these bytes
abbrev pub due_behind : ℕ → Due
due_behind zero = Nothing
due_behind (suc more) = Byte 0x80 0xBF more

-- what is due after a further byte, if it may stand there
abbrev pub due_after : Due → ℕ → Option Due
due_after Nothing b = due_after_first b
due_after (Byte low high more) b = if nat_le low b && nat_le b high then Some (due_behind more) else None

-- what is due after further bytes
abbrev pub due_along : Option Due → List ℕ → Option Due
due_along None bs = None
due_along (Some due) [] = Some due
due_along (Some due) (b ∷ bs) = due_along (due_after due b) bs
