-- A number that tells most distributions apart in their order.
use Rattle.std.specs.Prelude.{ℕ, ◌+◌, ◌*◌, ◌==◌, Option, None, Some, List, [], ◌∷◌, if◌then◌else◌, min}

-- the code of a capacity: one more than it, the greatest for all large ones, and 0 for none
abbrev pub code_of : Option ℕ → ℕ
code_of None = 0
code_of (Some k) = min k 4294967294 + 1

-- the code of the first capacity, and 0 where there is none
abbrev pub first_code : List (Option ℕ) → ℕ
first_code [] = 0
first_code (d ∷ ds) = code_of d

-- the head of capacities: the codes of the first two of them as one number, which never falls as they rise in
-- lexicographic order; where the first has the greatest code the second doesn't count
abbrev pub head_of : List (Option ℕ) → ℕ
head_of [] = 0
head_of (d ∷ ds) = code_of d * 4294967296 + (if code_of d == 4294967295 then 0 else first_code ds)
