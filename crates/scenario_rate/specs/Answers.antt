-- What an answer shows of a timed graph.
use Rattle.std.specs.Prelude.{◌≡◌, ℕ, ℤ, List, slice_get, slice_index_or, Option, Some, None}
use Rattle.automaton.specs.declared.graph.Edge.{Edge}

-- the potential of a node in a list by node
abbrev pub potential_at : List (Option ℤ) → ℕ → Option ℤ
potential_at potentials v = slice_index_or potentials v None

-- no two edges of a list begin at one node
abbrev pub IsApart : List Edge → List ℕ → Type 0
IsApart es ks = (i j a b : ℕ) (e f : Edge) → slice_get ks i ≡ Some a → slice_get ks j ≡ Some b → slice_get es a ≡ Some e → slice_get es b ≡ Some f
    → e.from ≡ f.from → i ≡ j
