-- Open nodes before and after some of them were looked at.
use Rattle.std.specs.Prelude.{◌≡◌, ℕ, ◌≤◌, ◌<◌, ◌++◌, ◌⊎◌, All, List, [], ◌∷◌, Option, None, Some, length}
use Rattle.std.specs.BTreeSet.{insert_key}
use Rattle.sd_base.specs.declared.numbers.Fraction.{Fraction}
use Rattle.covers.specs.declared.bound.Bound.{Bound}
use Rattle.covers.specs.declared.lattice.Lattice.{Lattice}
use Rattle.covers.specs.declared.node.Node.{Node}
use Rattle.covers.specs.declared.search.Search.{Search}
use Rattle.covers.specs.declared.search.Order.{Order}
use Rattle.covers.specs.declared.search.Order.TheVariants.{Storage, Lexicographic}
use Rattle.covers.specs.Lattices.{IsAmong, IsOnLattice, storage_of}
use Rattle.covers.specs.Bounds.{IsCovered}
use Rattle.covers.specs.Nodes.{IsProper, LiesIn, StandsFor}
use Rattle.covers.specs.inside.NodeOrder.{IsBefore, node_cmp}
use Rattle.covers.specs.inside.Rooms.{weight_of}
use Rattle.covers.specs.inside.Surveys.{CoversNothing}

-- the nodes, with more put among them
abbrev pub put_all : List Node → List Node → List Node
put_all [] old = old
put_all (n ∷ ns) old = put_all ns (insert_key node_cmp old n)

-- what a search knows, but for its open nodes
pub record Known : Type 0 where
  pub lattice : Lattice
  pub order : Order
  pub bounds : List Bound
  pub best : Fraction

abbrev pub known : Search → Known
known s = record { lattice = s.lattice; order = s.order; bounds = s.bounds.items; best = s.best }

-- what lies in the old nodes and isn't covered lies in the new ones, which are proper where the old ones were and have no
-- less a least
pub record IsKept (k : Known) (old new : List Node) : Type 0 where
  pub left : (ks : List ℕ) → IsAmong k.lattice ks → LiesIn k.lattice old ks → IsCovered k.bounds k.best ks ⊎ LiesIn k.lattice new ks
  pub proper : All (IsProper k.lattice k.order) old → All (IsProper k.lattice k.order) new
  pub risen : (t : ℕ) → All (λ (n : Node). t ≤ n.least) old → All (λ (n : Node). t ≤ n.least) new

-- the node begins with what no bound in force covers, which in the order of storage needs no more than its least
pub record IsFound (k : Known) (n : Node) : Type 0 where
  pub proper : IsProper k.lattice k.order n
  pub among : IsAmong k.lattice n.lo.items
  pub free : CoversNothing k.bounds k.best n.lo.items
  pub needs : k.order ≡ Storage → storage_of k.lattice.axes n.lo.items ≤ n.least

-- a node that was taken off was closed, or its parts were put back, and there is less to look at
pub record IsBranched (s : Search) (n : Node) (t : Search) : Type 0 where
  pub kept : IsKept (known s) (n ∷ s.open.keys) t.open.keys
  pub less : weight_of s.lattice.limit t.open.keys < weight_of s.lattice.limit (n ∷ s.open.keys)

-- so it is, or the node is given back, and the others stay
abbrev pub IsLooked : Search → Node → Search → Option Node → Type 0
IsLooked s n t None = IsBranched s n t
IsLooked s n t (Some found) = (found ≡ n) × (t.open.keys ≡ s.open.keys) × IsFound (known s) n

-- the first node that is found, which is before all others
pub record IsNextAt (s : Search) (total : ℕ) (t : Search) (n : Node) : Type 0 where
  pub kept : IsKept (known s) s.open.keys (n ∷ t.open.keys)
  pub found : IsFound (known s) n
  pub within : n.least ≤ total
  pub first : All (IsBefore n) t.open.keys

-- it, or none, and then each open node's least is above the total
abbrev pub IsNext : Search → ℕ → Search → Option Node → Type 0
IsNext s total t None = IsKept (known s) s.open.keys t.open.keys × All (λ (n : Node). total < n.least) t.open.keys
IsNext s total t (Some n) = IsNextAt s total t n

-- the first node was taken off, if its least is at most the total
abbrev pub IsTakenOff : List Node → ℕ → List Node → Option Node → Type 0
IsTakenOff old total new None = (new ≡ old) × All (λ (n : Node). total < n.least) new
IsTakenOff old total new (Some n) = (old ≡ n ∷ new) × (n.least ≤ total) × All (IsBefore n) new

-- found nodes, and more that are: all whose least is at most the total, if they are fewer than asked for
pub record IsGathered (s : Search) (total most : ℕ) (old new : List Node) (t : Search) : Type 0 where
  pub more : List Node
  pub longer : new ≡ old ++ more
  pub kept : IsKept (known s) s.open.keys (more ++ t.open.keys)
  pub found : All (IsFound (known s)) more
  pub within : All (λ (n : Node). n.least ≤ total) more
  pub whole : length new < most → All (λ (n : Node). total < n.least) t.open.keys

-- in the order of vectors alone, nothing is known of what a node needs
abbrev pub IsRank : Order → ℕ → ℕ → Type 0
IsRank Storage storage rank = rank ≡ storage
IsRank Lexicographic storage rank = rank ≡ 0

-- the node stands for all that the search is about
pub record IsRoot (lattice : Lattice) (n : Node) : Type 0 where
  pub on : IsOnLattice lattice.axes n.lo.items
  pub all : (ks : List ℕ) → IsAmong lattice ks → StandsFor n ks
  pub least : n.least ≡ 0
