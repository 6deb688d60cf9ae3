-- What a walk comes to is on the lattice, between the corner and the goal.
use Rattle.std.proofs.Common.{ℕ, zero, suc, ◌+◌, ◌≤◌, List, [], ◌∷◌, arith}
use Rattle.std.specs.Prelude.{Contains, slice_index, slice_set}
use Rattle.std.proofs.lemmas.List.Elements.{All-contains}
use Rattle.covers.specs.declared.lattice.Axis.{Axis}
use Rattle.covers.specs.Lattices.{IsOnLattice, corner_of}
use Rattle.covers.proofs.ChangesKeepOrder.{set-above}
use Rattle.covers.proofs.RootHoldsLattice.{corner-below, corner-on-lattice}
use Rattle.walks.specs.declared.telling.Telling.{Telling}
use Rattle.walks.specs.Tellings.{IsUnder}
use Rattle.walks.specs.Walks.{AreOnLattice, IsWalked, begin, begin_at, step, step_at, with_step}
use Rattle.walks.proofs.StepsFitLattice.{step-on}

pub under-along : (is js ks : List ℕ) → IsUnder is js → IsUnder js ks → IsUnder is ks
under-along is js ks low high = λ c. along (slice_index is c) (slice_index js c) (slice_index ks c) (low c) (high c)
  where
    along : (x y z : ℕ) → x ≤ y → y ≤ z → x ≤ z
    along x y z a b = omega arith

-- a channel with more room takes none from the others
pub set-more : (ks : List ℕ) (c s i : ℕ) → slice_index ks i ≤ slice_index (slice_set ks c (slice_index ks c + s)) i
set-more [] c s i = omega arith
set-more (k ∷ ks) zero s zero = omega arith
set-more (k ∷ ks) zero s (suc i) = omega arith
set-more (k ∷ ks) (suc c) s zero = omega arith
set-more (k ∷ ks) (suc c) s (suc i) = set-more ks c s i

-- ---- a walk on the lattice, where each telling is

module _ (axes : List Axis) (tellings : List Telling) (goal : List ℕ) (told : AreOnLattice axes tellings) (last : IsOnLattice axes goal) where
  told-on : (t : Telling) → Contains tellings t → IsOnLattice axes t.capacities
  told-on t one = All-contains (λ (u : Telling). IsOnLattice axes u.capacities) tellings t told one

  pub walked-above : (ks : List ℕ) → IsWalked axes tellings (corner_of axes) goal ks → IsUnder (corner_of axes) ks
  walked-above _ begin = λ c. omega arith
  walked-above _ (begin_at t one under) = corner-below axes t.capacities (told-on t one)
  walked-above _ (step ks t c walked one holds shown fits) = under-along (corner_of axes) ks (with_step axes ks c) (walked-above ks walked) (set-more ks c (step_at axes c))

  pub walked-below : (ks : List ℕ) → IsWalked axes tellings (corner_of axes) goal ks → IsUnder ks goal
  walked-below _ begin = corner-below axes goal last
  walked-below _ (begin_at t one under) = under
  walked-below _ (step ks t c walked one holds shown fits) = set-above ks (λ i. slice_index goal i) c (slice_index ks c + step_at axes c) (walked-below ks walked) fits

  pub walked-on : (ks : List ℕ) → IsWalked axes tellings (corner_of axes) goal ks → IsOnLattice axes ks
  walked-on _ begin = corner-on-lattice axes
  walked-on _ (begin_at t one under) = told-on t one
  walked-on _ (step ks t c walked one holds shown fits) = step-on axes goal ks c last (walked-on ks walked) fits
