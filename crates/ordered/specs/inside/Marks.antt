-- Actors with a mark.
use Rattle.std.specs.Prelude.{ℕ, Bool, false, List, slice_index_or}

-- actor a has a mark
abbrev pub is_marked : List Bool → ℕ → Bool
is_marked marks a = slice_index_or marks a false
