-- A vector with another capacity on one channel, and those above and below it.
use Rattle.std.proofs.Common.{◌≡◌, ℕ, zero, suc, ◌≤◌, ◌<◌, List, [], ◌∷◌, length, length-set, take, get_or, ◌∙◌, subst, arith, min}
use Rattle.std.specs.Prelude.{All, slice_index, slice_index_or, slice_set}
use Rattle.std.proofs.lemmas.List.{take_all}
use Rattle.covers.specs.declared.lattice.Axis.{Axis}
use Rattle.covers.specs.declared.bound.Cap.{Cap}
use Rattle.covers.specs.Lattices.{IsOnAxis, IsOnLattice}
use Rattle.covers.specs.Bounds.{IsWithin}

pub set-above : (lo : List ℕ) (f : ℕ → ℕ) (c v : ℕ) → ((i : ℕ) → slice_index lo i ≤ f i) → v ≤ f c → (i : ℕ) → slice_index (slice_set lo c v) i ≤ f i
set-above [] f c v le more i = le i
set-above (x ∷ lo) f zero v le more zero = more
set-above (x ∷ lo) f zero v le more (suc i) = le (suc i)
set-above (x ∷ lo) f (suc c) v le more zero = le 0
set-above (x ∷ lo) f (suc c) v le more (suc i) = set-above lo (λ j. f (suc j)) c v (λ j. le (suc j)) more i

pub min-above : (k x y : ℕ) → k ≤ x → k ≤ y → k ≤ min x y
min-above k x y a b = omega arith

pub set-below : (hi : List ℕ) (f : ℕ → ℕ) (c v : ℕ) → ((i : ℕ) → f i ≤ slice_index hi i) → f c ≤ v → (i : ℕ) → f i ≤ slice_index (slice_set hi c (min (slice_index hi c) v)) i
set-below [] f c v le less i = le i
set-below (x ∷ hi) f zero v le less zero = min-above (f 0) x v (le 0) less
set-below (x ∷ hi) f zero v le less (suc i) = le (suc i)
set-below (x ∷ hi) f (suc c) v le less zero = le 0
set-below (x ∷ hi) f (suc c) v le less (suc i) = set-below hi (λ j. f (suc j)) c v (λ j. le (suc j)) less i

-- a cap that the vector keeps to

pub within-here : (ks : List ℕ) (caps : List Cap) (i : ℕ) (d : Cap) (k : ℕ) → k ≡ slice_index ks (get_or caps i d).channel → k ≤ (get_or caps i d).capacity → IsWithin ks (get_or caps i d)
within-here ks caps i d k is le = omega (arith, is, le)

-- what holds of all that was gone through
pub all-done : {X : Type 0} (P : X → Type 0) (xs ys : List X) (i : ℕ) → xs ≡ ys → length xs ≤ i → All P (take i xs) → All P ys
all-done P xs ys i same past all = subst (λ (zs : List _). All P zs) (take_all i xs past ∙ same) all

-- a vector of the lattice with another capacity of the lattice on one channel
pub set-on : (axes : List Axis) (ks : List ℕ) (c v : ℕ) → IsOnLattice axes ks → ((a : Axis) → IsOnAxis (slice_index_or axes c a) v) → IsOnLattice axes (slice_set ks c v)
set-on axes ks c v on here = record {
  long = length-set ks c v ∙ on.long;
  each = λ i a below. at axes ks c v i a (omega (arith, on.long)) (on.each i a below) (here a);
}
  where
    at : (axes : List Axis) (ks : List ℕ) (c v i : ℕ) (a : Axis) → i < length ks → IsOnAxis (slice_index_or axes i a) (slice_index ks i) → IsOnAxis (slice_index_or axes c a) v → IsOnAxis (slice_index_or axes i a) (slice_index (slice_set ks c v) i)
    at axes [] c v i a below old new = absurd (omega arith)
    at [] (k ∷ ks) zero v zero a below old new = new
    at [] (k ∷ ks) zero v (suc i) a below old new = old
    at [] (k ∷ ks) (suc c) v zero a below old new = old
    at [] (k ∷ ks) (suc c) v (suc i) a below old new = at [] ks c v i a (omega arith) old new
    at (b ∷ axes) (k ∷ ks) zero v zero a below old new = new
    at (b ∷ axes) (k ∷ ks) zero v (suc i) a below old new = old
    at (b ∷ axes) (k ∷ ks) (suc c) v zero a below old new = old
    at (b ∷ axes) (k ∷ ks) (suc c) v (suc i) a below old new = at axes ks c v i a (omega arith) old new
