-- What is left of a node by a bound.
use Rattle.std.specs.Prelude.{◌≡◌, ℕ, ◌<◌, ◌⊎◌, All, Contains, List}
use Rattle.covers.specs.declared.lattice.Lattice.{Lattice}
use Rattle.covers.specs.declared.bound.Bound.{Bound}
use Rattle.covers.specs.declared.node.Node.{Node}
use Rattle.covers.specs.Lattices.{IsOnLattice}
use Rattle.covers.specs.Bounds.{Covers}
use Rattle.covers.specs.Nodes.{StandsFor}
use Rattle.covers.specs.inside.Ways.{IsInside}
use Rattle.covers.specs.inside.Rooms.{room_of, rooms_of}

-- one of the nodes stands for the vector
abbrev pub StandsAmong : List Node → List ℕ → Type 0
StandsAmong nodes ks = (n : Node) × Contains nodes n × StandsFor n ks

-- what the bound doesn't cover of the node lies in one of the children, which together have less room than the node
pub record IsSplit (lattice : Lattice) (b : Bound) (n : Node) (children : List Node) : Type 0 where
  pub left : (ks : List ℕ) → IsInside lattice n ks → Covers b ks ⊎ StandsAmong children ks
  pub least : All (λ (child : Node). child.least ≡ n.least) children
  pub on : All (λ (child : Node). IsOnLattice lattice.axes child.lo.items) children
  pub less : rooms_of children < room_of n
