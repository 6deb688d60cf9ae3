-- Inside the crate: a list of numbers for each actor. No public clause cites this.
use Rattle.std.specs.Prelude.{ℕ, List, [], ◌∷◌, ◌++◌, slice_index_or, slice_set}

-- the list of an actor
abbrev pub list_at : List (List ℕ) → ℕ → List ℕ
list_at rows a = slice_index_or rows a []

-- the lists with one number more at the end of an actor's
abbrev pub appended : List (List ℕ) → ℕ → ℕ → List (List ℕ)
appended rows a k = slice_set rows a (list_at rows a ++ k ∷ [])
