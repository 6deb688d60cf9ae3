-- How many vectors nodes have room for, which falls with each node that is looked at.
use Rattle.std.specs.Prelude.{ℕ, ◌+◌, ◌-◌, ◌*◌, List, [], ◌∷◌}
use Rattle.covers.specs.declared.node.Node.{Node}

-- the number of vectors between two
abbrev pub room : List ℕ → List ℕ → ℕ
room [] hs = 1
room (l ∷ ls) [] = 1
room (l ∷ ls) (h ∷ hs) = (h - l + 1) * room ls hs

-- the number of vectors of a node
abbrev pub room_of : Node → ℕ
room_of n = room n.lo.items n.hi.items

-- that number, each vector counted with the limit, less what is known of the node's least
abbrev pub weight : ℕ → Node → ℕ
weight limit n = room_of n * (limit + 1) - n.least

-- the sum over nodes
abbrev pub weight_of : ℕ → List Node → ℕ
weight_of limit [] = 0
weight_of limit (n ∷ ns) = weight limit n + weight_of limit ns

-- the sum of the numbers of vectors
abbrev pub rooms_of : List Node → ℕ
rooms_of [] = 0
rooms_of (n ∷ ns) = room_of n + rooms_of ns
