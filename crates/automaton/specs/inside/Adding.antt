-- Edges that are added one after another.
use Rattle.std.specs.Prelude.{ℕ, List, [], ◌∷◌, Option, Some, None}
use Rattle.automaton.specs.declared.graph.Edge.{Edge}

-- the edge of an entry
abbrev pub one_edge : ℕ → ℕ → Option ℕ → List Edge
one_edge from to None = []
one_edge from to (Some e) = record { from = from; to = to; weight = e } ∷ []
