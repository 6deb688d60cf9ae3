-- The corner is on the lattice and below all of it, and the node that stands for all of the lattice.
use Rattle.std.proofs.Common.{◌≡◌, ℕ, zero, suc, ◌+◌, ◌*◌, ◌/◌, ◌≤◌, ◌<◌, List, [], ◌∷◌, length, map, refl, sym, ap, subst, arith}
use Rattle.std.specs.Prelude.{slice_index, slice_index_or}
use Rattle.std.proofs.lemmas.Nat.{le-div}
use Rattle.covers.specs.declared.lattice.Axis.{Axis}
use Rattle.covers.specs.declared.lattice.Lattice.{Lattice}
use Rattle.covers.specs.declared.node.Node.{Node}
use Rattle.covers.specs.Lattices.{IsOnAxis, IsOnLattice, corner_of, storage_of}
use Rattle.covers.specs.inside.Keeping.{IsRoot}

abbrev pub tops_of : ℕ → List Axis → List ℕ
tops_of limit axes = map (λ (a : Axis). limit / a.size) axes

corner-least : (a : Axis) (k : ℕ) → IsOnAxis a k → a.corner ≤ k
corner-least a k (n, is) = omega (arith, is)

corners-at : (axes : List Axis) (ks : List ℕ) → ((c : ℕ) (a : Axis) → c < length axes → IsOnAxis (slice_index_or axes c a) (slice_index ks c)) → (c : ℕ) → slice_index (corner_of axes) c ≤ slice_index ks c
corners-at [] ks each c = omega arith
corners-at (a ∷ axes) [] each zero = corner-least a 0 (each 0 a (omega arith))
corners-at (a ∷ axes) [] each (suc c) = corners-at axes [] (λ i b below. each (suc i) b (omega arith)) c
corners-at (a ∷ axes) (k ∷ ks) each zero = corner-least a k (each 0 a (omega arith))
corners-at (a ∷ axes) (k ∷ ks) each (suc c) = corners-at axes ks (λ i b below. each (suc i) b (omega arith)) c

-- a vector of the lattice has no less than the corner on any channel
pub corner-below : (axes : List Axis) (ks : List ℕ) → IsOnLattice axes ks → (c : ℕ) → slice_index (corner_of axes) c ≤ slice_index ks c
corner-below axes ks on = corners-at axes ks on.each

tops-at : (limit : ℕ) (axes : List Axis) (ks : List ℕ) → length ks ≡ length axes → storage_of axes ks ≤ limit → (c : ℕ) → slice_index ks c ≤ slice_index (tops_of limit axes) c
tops-at limit [] [] long within c = omega arith
tops-at limit [] (k ∷ ks) long within c = absurd (omega arith)
tops-at limit (a ∷ axes) [] long within c = absurd (omega arith)
tops-at limit (a ∷ axes) (k ∷ ks) long within zero = le-div k limit a.size a.some_size (omega (arith, within))
tops-at limit (a ∷ axes) (k ∷ ks) long within (suc c) = tops-at limit axes ks (omega arith) (omega (arith, within)) c

corners-long : (axes : List Axis) → length (corner_of axes) ≡ length axes
corners-long [] = refl
corners-long (a ∷ axes) = ap suc (corners-long axes)

corner-on : (axes : List Axis) (c : ℕ) (a : Axis) → c < length axes → slice_index (corner_of axes) c ≡ (slice_index_or axes c a).corner + 0 * (slice_index_or axes c a).step
corner-on [] c a below = absurd (omega arith)
corner-on (b ∷ axes) zero a below = omega arith
corner-on (b ∷ axes) (suc c) a below = corner-on axes c a (omega arith)

pub corner-on-lattice : (axes : List Axis) → IsOnLattice axes (corner_of axes)
corner-on-lattice axes = record { long = corners-long axes; each = λ c a below. (0, corner-on axes c a below) }

pub rooted : (lattice : Lattice) (n : Node) → n.lo.items ≡ corner_of lattice.axes → n.hi.items ≡ tops_of lattice.limit lattice.axes → n.least ≡ 0 → IsRoot lattice n
rooted lattice n lo hi least = record {
  on = subst (IsOnLattice lattice.axes) (sym lo) (corner-on-lattice lattice.axes);
  all = λ ks among. record {
    above = subst (λ (xs : List ℕ). (c : ℕ) → slice_index xs c ≤ slice_index ks c) (sym lo) (corner-below lattice.axes ks among.on);
    below = subst (λ (xs : List ℕ). (c : ℕ) → slice_index ks c ≤ slice_index xs c) (sym hi) (tops-at lattice.limit lattice.axes ks among.on.long among.within);
  };
  least = least;
}
