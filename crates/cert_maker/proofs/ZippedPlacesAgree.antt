-- Lists that are zipped are related place by place.
use Rattle.std.proofs.Common.{◌≡◌, ℕ, zero, suc, ◌<◌, Some, List, [], ◌∷◌, length, map, slice_get, ⊎_elim, refl, ap, subst, arith}
use Rattle.std.specs.Prelude.{slice_index_or, Contains}
use Rattle.std.specs.List.{AllZip}
use Rattle.sd_base.proofs.ContainedHavePlaces.{contains-here, contains-later, contains-none, contains-cases}

-- what stands at a place of the first list for what stands there in the second one
pub record ZipAt {A B : Type 0} (R : A → B → Type 0) (xs : List A) (i : ℕ) (y : B) : Type 0 where
  pub item : A
  pub one : Contains xs item
  pub at : slice_get xs i ≡ Some item
  pub holds : R item y

pub zip-at : {A B : Type 0} (R : A → B → Type 0) (xs : List A) (ys : List B) (i : ℕ) (d : B) → AllZip R xs ys → i < length ys → ZipAt R xs i (slice_index_or ys i d)
zip-at R [] [] i d all below = absurd (omega arith)
zip-at R [] (y ∷ ys) i d all below = absurd all
zip-at R (x ∷ xs) [] i d all below = absurd all
zip-at R (x ∷ xs) (y ∷ ys) zero d all below = record { item = x; one = contains-here x xs; at = refl; holds = all.0 }
zip-at R (x ∷ xs) (y ∷ ys) (suc i) d all below =
    let later = zip-at R xs ys i d all.1 (omega arith) in record { item = later.item; one = contains-later x xs later.item later.one; at = later.at; holds = later.holds }

-- a place of the second list for one of the first
pub record PlaceOf {A B : Type 0} (R : A → B → Type 0) (xs : List A) (ys : List B) (d : B) (x : A) : Type 0 where
  pub place : ℕ
  pub below : place < length ys
  pub at : slice_get xs place ≡ Some x
  pub holds : R x (slice_index_or ys place d)

pub zip-one : {A B : Type 0} (R : A → B → Type 0) (xs : List A) (ys : List B) (d : B) (x : A) → AllZip R xs ys → Contains xs x → PlaceOf R xs ys d x
zip-one R [] ys d x all one = absurd (contains-none x one)
zip-one R (z ∷ xs) [] d x all one = absurd all
zip-one R (z ∷ xs) (y ∷ ys) d x all one =
    ⊎_elim
    (λ (same : z ≡ x). record { place = 0; below = omega arith; at = ap Some same; holds = subst (λ w. R w y) same all.0 })
    (λ (later : Contains xs x).
    let found = zip-one R xs ys d x all.1 later in
    let within = found.below in
    record { place = suc found.place; below = omega (arith, within); at = found.at; holds = found.holds })
    (contains-cases z xs x one)

-- of a list that is related to another as a map
pub zip-mapped : {A B C : Type 0} (R : A → C → Type 0) (f : B → C) (xs : List A) (ys : List B) (i : ℕ) (x : A) (d : B) → AllZip R xs (map f ys) → i < length ys → slice_get xs i ≡ Some x → R x (f (slice_index_or ys i d))
zip-mapped R f [] ys i x d all below at = absurd (cc)
zip-mapped R f (z ∷ xs) [] i x d all below at = absurd all
zip-mapped R f (z ∷ xs) (y ∷ ys) zero x d all below at = let same : z ≡ x = cc in subst (λ w. R w (f y)) same all.0
zip-mapped R f (z ∷ xs) (y ∷ ys) (suc i) x d all below at = zip-mapped R f xs ys i x d all.1 (omega arith) at

pub zip-long : {A B : Type 0} (R : A → B → Type 0) (xs : List A) (ys : List B) → AllZip R xs ys → length xs ≡ length ys
zip-long R [] [] all = refl
zip-long R [] (y ∷ ys) all = absurd all
zip-long R (x ∷ xs) [] all = absurd all
zip-long R (x ∷ xs) (y ∷ ys) all = ap suc (zip-long R xs ys all.1)

-- by element of the first list one of the second
pub zip-chosen : {A B : Type 0} (R : A → B → Type 0) (xs : List A) → ((x : A) → Contains xs x → (y : B) × R x y) → (ys : List B) × AllZip R xs ys
zip-chosen R [] all = ([], tt)
zip-chosen R (x ∷ xs) all =
    let here = all x (contains-here x xs) in
    let rest = zip-chosen R xs (λ y one. all y (contains-later x xs y one)) in
    (here.0 ∷ rest.0, (here.1, rest.1))
