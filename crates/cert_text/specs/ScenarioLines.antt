-- The lines of a worst-case rate of scenarios. A node is a state and a token.
use Rattle.std.specs.Prelude.{ℕ, ℤ, List, [], ◌∷◌, ◌++◌, codes, length}
use Rattle.std.specs.List.{flat_map}
use Rattle.std.specs.Fmt.{decimal, signed_decimal}

unfoldable pub node_line : ℕ × ℕ → List ℕ
node_line node = decimal node.0 ++ (codes " " ++ (decimal node.1 ++ 10 ∷ []))

-- the time, the number of edges and the first node
unfoldable pub nodes_header : ℕ → ℕ → ℕ × ℕ → List ℕ
nodes_header time edges first = codes "cycle " ++ (decimal time ++ (codes " " ++ (decimal edges ++ (codes " " ++ node_line first))))

-- and the node that each edge enters
unfoldable pub nodes_lines : ℕ → List (ℕ × ℕ) → List ℕ
nodes_lines time [] = []
nodes_lines time (first ∷ nodes) = nodes_header time (length nodes) first ++ flat_map node_line nodes

unfoldable pub potential_line : ℕ × ℕ × ℤ → List ℕ
potential_line p = decimal p.0 ++ (codes " " ++ (decimal p.1 ++ (codes " " ++ (signed_decimal p.2 ++ 10 ∷ []))))
