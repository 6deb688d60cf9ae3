-- Texts of what stands in lists, one after the other.
use Rattle.std.specs.Prelude.{ℕ, zero, suc, List, [], ◌∷◌, ◌++◌, Option, Some, None, slice_index_or}
use Rattle.std.specs.List.{join_by}

-- texts with a separator between
abbrev pub joined : List ℕ → List (List ℕ) → List ℕ
joined separator pieces = join_by (λ (piece : List ℕ). piece) separator pieces

-- the text of an entry, where there is one
abbrev pub piece_of : (ℕ → List ℕ) → Option ℕ → List (List ℕ)
piece_of text None = []
piece_of text (Some n) = text n ∷ []

-- the texts of the entries at the first n places, each of its place and of what stands there
unfoldable pub pieces_of : (ℕ → ℕ → List ℕ) → List (Option ℕ) → ℕ → List (List ℕ)
pieces_of text entries zero = []
pieces_of text entries (suc i) = pieces_of text entries i ++ piece_of (text i) (slice_index_or entries i None)

-- the lines of two lists, each of an element of the first and the one at its place in the second
unfoldable pub lines_of : {R V : Type 0} → (R → V → List ℕ) → List R → List V → List ℕ
lines_of line [] vs = []
lines_of line (r ∷ rs) [] = []
lines_of line (r ∷ rs) (v ∷ vs) = line r v ++ lines_of line rs vs
