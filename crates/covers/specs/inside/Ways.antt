-- The ways out of a bound.
use Rattle.std.specs.Prelude.{◌≡◌, ℕ, ◌-◌, ◌*◌, ◌≤◌, ◌<◌, ◌⊎◌, All, List, length, min, slice_index, slice_index_or}
use Rattle.covers.specs.declared.lattice.Axis.{Axis}
use Rattle.covers.specs.declared.lattice.Lattice.{Lattice}
use Rattle.covers.specs.declared.bound.Cap.{Cap}
use Rattle.covers.specs.declared.node.Node.{Node}
use Rattle.covers.specs.declared.ways.Way.{Way}
use Rattle.covers.specs.declared.ways.Ways.{Ways}
use Rattle.covers.specs.declared.ways.Ways.TheVariants.{Nowhere, One, Several}
use Rattle.covers.specs.Lattices.{IsAmong, IsOnAxis}
use Rattle.covers.specs.Bounds.{IsWithin}
use Rattle.covers.specs.Nodes.{StandsFor}

-- v is the least capacity of the axis above another
pub record IsNextOn (a : Axis) (k v : ℕ) : Type 0 where
  pub on : IsOnAxis a v
  pub above : k < v
  pub least : (j : ℕ) → IsOnAxis a j → k < j → v ≤ j

-- a vector that the search is about, in the node
pub record IsInside (lattice : Lattice) (n : Node) (ks : List ℕ) : Type 0 where
  pub among : IsAmong lattice ks
  pub between : StandsFor n ks

-- all of the node has at most the cap's capacity
abbrev pub StaysWithin : Lattice → Node → Cap → Type 0
StaysWithin lattice n cap = (ks : List ℕ) → IsInside lattice n ks → IsWithin ks cap

-- the way is one that the node has room for
pub record IsOpenWay (lattice : Lattice) (n : Node) (w : Way) : Type 0 where
  pub place : w.channel < length lattice.axes
  pub high : w.capacity ≤ slice_index n.hi.items w.channel
  pub on : (a : Axis) → IsOnAxis (slice_index_or lattice.axes w.channel a) w.capacity

-- what the vector needs on the channel more than the node does at least
abbrev pub rise_of : Lattice → Node → List ℕ → ℕ → Axis → ℕ
rise_of lattice n ks c a = (slice_index ks c - slice_index n.lo.items c) * (slice_index_or lattice.axes c a).size

-- what of the node has more than the cap's capacity needs so much more there
abbrev pub IsToll : Lattice → Node → ℕ → Cap → Type 0
IsToll lattice n cost cap = (ks : List ℕ) → IsInside lattice n ks → IsWithin ks cap ⊎ ((a : Axis) → cost ≤ rise_of lattice n ks cap.channel a)

-- what of the node has more than the cap's capacity takes the way
pub record IsWayOut (lattice : Lattice) (n : Node) (cap : Cap) (w : Way) : Type 0 where
  pub channel : w.channel ≡ cap.channel
  pub above : cap.capacity < w.capacity
  pub room : IsOpenWay lattice n w
  pub taken : (ks : List ℕ) → IsInside lattice n ks → IsWithin ks cap ⊎ (w.capacity ≤ slice_index ks w.channel)
  pub toll : IsToll lattice n w.cost cap

-- what of the node isn't within all of the caps takes the way, which is above what the node begins with
pub record IsOnlyWay (lattice : Lattice) (n : Node) (caps : List Cap) (w : Way) : Type 0 where
  pub left : (ks : List ℕ) → IsInside lattice n ks → All (IsWithin ks) caps ⊎ (w.capacity ≤ slice_index ks w.channel)
  pub above : slice_index n.lo.items w.channel < w.capacity
  pub room : IsOpenWay lattice n w
  pub toll : All (IsToll lattice n w.cost) caps

-- none, the only one, or several of which none costs less
abbrev pub AreWays : Lattice → Node → List Cap → Ways → Type 0
AreWays lattice n caps Nowhere = (ks : List ℕ) → IsInside lattice n ks → All (IsWithin ks) caps
AreWays lattice n caps (One w) = IsOnlyWay lattice n caps w
AreWays lattice n caps (Several number cost) = All (IsToll lattice n cost) caps

-- the ways and one more
abbrev pub IsWith : Ways → Way → Ways → Type 0
IsWith Nowhere w ways = ways ≡ One w
IsWith (One v) w ways = (number : ℕ) × (ways ≡ Several number (min v.cost w.cost))
IsWith (Several n cost) w ways = (number : ℕ) × (ways ≡ Several number (min cost w.cost))
