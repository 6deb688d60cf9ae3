-- What the bounds in force that cover a node's least vector say of the node.
use Rattle.std.specs.Prelude.{◌≡◌, ℕ, ◌≤◌, ◌<◌, ◌⊎◌, All, List, length, slice_index, slice_index_or}
use Rattle.sd_base.specs.declared.numbers.Fraction.{Fraction}
use Rattle.covers.specs.declared.lattice.Lattice.{Lattice}
use Rattle.covers.specs.declared.bound.Bound.{Bound}
use Rattle.covers.specs.declared.node.Node.{Node}
use Rattle.covers.specs.declared.ways.Way.{Way}
use Rattle.covers.specs.declared.survey.Toll.{Toll}
use Rattle.covers.specs.declared.survey.Survey.{Survey}
use Rattle.covers.specs.declared.survey.Survey.TheVariants.{Closed, Narrow, Tolls}
use Rattle.covers.specs.Lattices.{storage_of}
use Rattle.covers.specs.Bounds.{Covers, IsCovered, IsInForce}
use Rattle.covers.specs.inside.Ways.{IsInside, IsOpenWay, IsToll}

-- no bound in force covers the vector
abbrev pub CoversNothing : List Bound → Fraction → List ℕ → Type 0
CoversNothing bounds best ks = IsCovered bounds best ks → ⊥

-- bounds in force cover all of the node
abbrev pub AllCovered : Lattice → List Bound → Fraction → Node → Type 0
AllCovered lattice bounds best n = (ks : List ℕ) → IsInside lattice n ks → IsCovered bounds best ks

-- what no bound in force covers of the node takes the way, which is above what the node begins with
pub record IsNarrowing (lattice : Lattice) (bounds : List Bound) (best : Fraction) (n : Node) (w : Way) : Type 0 where
  pub left : (ks : List ℕ) → IsInside lattice n ks → IsCovered bounds best ks ⊎ (w.capacity ≤ slice_index ks w.channel)
  pub above : slice_index n.lo.items w.channel < w.capacity
  pub room : IsOpenWay lattice n w

-- the bound is in force and covers what the node begins with
pub record Holds (best : Fraction) (n : Node) (b : Bound) : Type 0 where
  pub force : IsInForce best b
  pub covers : Covers b n.lo.items

-- so does the bound at the place
abbrev pub HoldsAt : List Bound → Fraction → Node → ℕ → Type 0
HoldsAt bounds best n place = (b : Bound) → Holds best n (slice_index_or bounds place b)

-- the bound at the toll's place holds, and what it doesn't cover pays the toll
pub record IsTollAt (lattice : Lattice) (bounds : List Bound) (best : Fraction) (n : Node) (t : Toll) : Type 0 where
  pub place : t.place < length bounds
  pub holds : HoldsAt bounds best n t.place
  pub paid : (b : Bound) → All (IsToll lattice n t.cost) (slice_index_or bounds t.place b).caps

-- the bound at the place doesn't hold
abbrev pub HoldsNot : List Bound → Fraction → Node → ℕ → Type 0
HoldsNot bounds best n place = (b : Bound) → Holds best n (slice_index_or bounds place b) → ⊥

-- each is a toll, and if there is none, no bound at a place that was looked at holds
pub record AreTolls (lattice : Lattice) (bounds : List Bound) (best : Fraction) (n : Node) (looked : List ℕ) (tolls : List Toll) : Type 0 where
  pub each : All (IsTollAt lattice bounds best n) tolls
  pub none : length tolls ≡ 0 → All (HoldsNot bounds best n) looked

-- what bounds at the places say of the node
abbrev pub IsSurvey : Lattice → List Bound → Fraction → Node → List ℕ → Survey → Type 0
IsSurvey lattice bounds best n places Closed = AllCovered lattice bounds best n
IsSurvey lattice bounds best n places (Narrow w) = IsNarrowing lattice bounds best n w
IsSurvey lattice bounds best n places (Tolls tolls) = AreTolls lattice bounds best n places tolls.items

-- what no bound in force covers of the node needs at least this storage
abbrev pub IsLeast : Lattice → List Bound → Fraction → Node → ℕ → Type 0
IsLeast lattice bounds best n least = (ks : List ℕ) → IsInside lattice n ks → IsCovered bounds best ks ⊎ (least ≤ storage_of lattice.axes ks)
