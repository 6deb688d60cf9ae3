-- Files of a shelf in memory.
use Rattle.std.specs.Prelude.{◌≢◌, ℕ, ◌<◌, List, [], ◌∷◌, length, Option, Some, None, nat_eq, if◌then◌else◌, slice_index_or}
use Rattle.std.specs.Cmp.Lexicographic.{pointwise}

-- the bytes of the first file of a name
abbrev pub file_named : List ℕ → List (List ℕ × List ℕ) → Option (List ℕ)
file_named name [] = None
file_named name (f ∷ fs) = if pointwise nat_eq f.0 name then Some f.1 else file_named name fs

-- no two files have one name
abbrev pub NamesDiffer : List (List ℕ × List ℕ) → Type 0
NamesDiffer files = (j k : ℕ) → j < k → k < length files →
    (slice_index_or files j ([], [])).0 ≢ (slice_index_or files k ([], [])).0
