-- Nodes: the vectors between two.
use Rattle.std.specs.Prelude.{◌≡◌, ℕ, ◌≤◌, Contains, List, slice_index}
use Rattle.covers.specs.declared.lattice.Lattice.{Lattice}
use Rattle.covers.specs.declared.node.Node.{Node}
use Rattle.covers.specs.declared.search.Order.{Order}
use Rattle.covers.specs.declared.search.Order.TheVariants.{Lexicographic}
use Rattle.covers.specs.Lattices.{IsOnLattice, storage_of}

-- the node stands for the vector
pub record StandsFor (n : Node) (ks : List ℕ) : Type 0 where
  pub above : (c : ℕ) → slice_index n.lo.items c ≤ slice_index ks c
  pub below : (c : ℕ) → slice_index ks c ≤ slice_index n.hi.items c

-- one of the nodes stands for the vector, and its least is at most the vector's storage
abbrev pub LiesIn : Lattice → List Node → List ℕ → Type 0
LiesIn lattice nodes ks = (n : Node) × Contains nodes n × StandsFor n ks × (n.least ≤ storage_of lattice.axes ks)

-- the node begins on the lattice, and has no least where the order is that of vectors alone
pub record IsProper (lattice : Lattice) (order : Order) (n : Node) : Type 0 where
  pub on : IsOnLattice lattice.axes n.lo.items
  pub flat : order ≡ Lexicographic → n.least ≡ 0
