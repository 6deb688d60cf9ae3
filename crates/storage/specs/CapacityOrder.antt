-- The lexicographic order of distributions.
use Rattle.std.specs.Prelude.{ℕ, Bool, true, false, Option, None, Some, List, [], ◌∷◌, if◌then◌else◌, nat_lt}

-- the first list is no later than the second in lexicographic order, a capacity being later than none
abbrev pub no_later : List (Option ℕ) → List (Option ℕ) → Bool
no_later [] es = true
no_later (d ∷ ds) [] = false
no_later (None ∷ ds) (None ∷ es) = no_later ds es
no_later (None ∷ ds) (Some b ∷ es) = true
no_later (Some a ∷ ds) (None ∷ es) = false
no_later (Some a ∷ ds) (Some b ∷ es) = if nat_lt a b then true else (if nat_lt b a then false else no_later ds es)
