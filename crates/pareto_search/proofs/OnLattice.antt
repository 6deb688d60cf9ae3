-- Vectors of a lattice, axis by axis.
use Rattle.std.proofs.Common.{ℕ, zero, suc, ◌<◌, List, [], ◌∷◌, length, refl, ap, arith}
use Rattle.std.specs.Prelude.{slice_index, slice_index_or}
use Rattle.covers.specs.declared.lattice.Axis.{Axis}
use Rattle.covers.specs.Lattices.{IsOnAxis, IsOnLattice}

pub none-on : IsOnLattice [] []
none-on = record { long = refl; each = λ c a below. absurd (omega arith) }

pub none-left : (a : Axis) (axes : List Axis) → IsOnLattice (a ∷ axes) [] → ⊥
none-left a axes on = omega (arith, on.long)

pub first-on : (a : Axis) (axes : List Axis) (k : ℕ) (ks : List ℕ) → IsOnLattice (a ∷ axes) (k ∷ ks) → IsOnAxis a k
first-on a axes k ks on = on.each 0 a (omega arith)

pub rest-on : (a : Axis) (axes : List Axis) (k : ℕ) (ks : List ℕ) → IsOnLattice (a ∷ axes) (k ∷ ks) → IsOnLattice axes ks
rest-on a axes k ks on = record { long = omega (arith, on.long); each = λ c b below. on.each (suc c) b (omega arith) }

pub both-on : (a : Axis) (axes : List Axis) (k : ℕ) (ks : List ℕ) → IsOnAxis a k → IsOnLattice axes ks → IsOnLattice (a ∷ axes) (k ∷ ks)
both-on a axes k ks here rest = record { long = ap suc rest.long; each = at }
  where
    at : (c : ℕ) (b : Axis) → c < length (a ∷ axes) → IsOnAxis (slice_index_or (a ∷ axes) c b) (slice_index (k ∷ ks) c)
    at zero b below = here
    at (suc c) b below = rest.each c b (omega arith)
