-- What stands in a line: words and numbers. Each is passed, and gives what is left of the line.
use Rattle.std.specs.Prelude.{ℕ, zero, suc, ◌+◌, ◌-◌, ◌*◌, List, [], ◌∷◌, Bool, true, false, ◌&&◌, not, Result, Ok, Err, length, take, drop, nat_lt, nat_le, ◌==◌, if◌then◌else◌}
use Rattle.std.specs.List.{fold, position_or_len}
use Rattle.cert_text.specs.declared.reading.fault.Fault.{Fault}
use Rattle.cert_text.specs.declared.reading.fault.Fault.TheVariants.{Form, Large}
use Rattle.cert_text.specs.Reads.{◌>>=◌}

unfoldable pub behind : List ℕ → List ℕ → Result (List ℕ) Fault
behind [] text = Ok text
behind (c ∷ w) [] = Err Form
behind (c ∷ w) (b ∷ text) = if b == c then behind w text else Err Form

abbrev pub is_digit : ℕ → Bool
is_digit b = nat_le 48 b && nat_le b 57

abbrev pub is_other : ℕ → Bool
is_other b = not (is_digit b)

-- digits without leading zeros, at least one
unfoldable pub is_numeral : List ℕ → Bool
is_numeral [] = false
is_numeral (d ∷ []) = true
is_numeral (d ∷ e ∷ ds) = not (d == 48)

unfoldable pub number_value : List ℕ → ℕ
number_value digits = fold (λ (n d : ℕ). n * 10 + (d - 48)) 0 digits

-- a number of any size
unfoldable pub number_in : List ℕ → Result (ℕ × List ℕ) Fault
number_in text = let n = position_or_len is_other text in if is_numeral (take n text) then Ok (number_value (take n text), drop n text) else Err Form

-- and one behind a word
unfoldable pub worded_in : List ℕ → List ℕ → Result (ℕ × List ℕ) Fault
worded_in word text = do
  a ← behind word text
  number_in a

-- that may not pass a limit
abbrev pub limited : ℕ → ℕ → Result ℕ Fault
limited limit n = if nat_le n limit then Ok n else Err Large

-- the end of the line
abbrev pub ended : List ℕ → Result (List ℕ) Fault
ended [] = Err Form
ended (b ∷ []) = if b == 10 then Ok [] else Err Form
ended (b ∷ c ∷ rest) = Err Form

-- as many entries as stand before the end of the line, up to n
unfoldable pub entries_of : {A : Type 0} → (List ℕ → Result (A × List ℕ) Fault) → ℕ → List ℕ → Result (List A) Fault
entries_of f zero text = do
  left ← ended text
  Ok []
entries_of f (suc n) text = if nat_lt 1 (length text) then (do
  x ← f text
  xs ← entries_of f n x.1
  Ok (x.0 ∷ xs)) else (do
    left ← ended text
    Ok [])

-- each within its limit
unfoldable pub each_by : {A B : Type 0} → (A → Result B Fault) → List A → Result (List B) Fault
each_by f [] = Ok []
each_by f (x ∷ xs) = do
  y ← f x
  ys ← each_by f xs
  Ok (y ∷ ys)
