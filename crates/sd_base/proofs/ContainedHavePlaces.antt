-- What a list contains has a place in it, also in mapped lists and those that a test tells.
use Rattle.std.proofs.Common.{◌≡◌, ℕ, zero, suc, ◌+◌, ◌≤◌, ◌<◌, ◌⊎◌, Some, List, [], ◌∷◌, ◌++◌, map, inl, inr, ⊎_elim, refl, sym, ap, ◌∙◌, subst, arith}
use Rattle.std.specs.Prelude.{◌↔◌, Contains, slice_get}
use Rattle.std.proofs.lemmas.Bool.{cases_lt}
use Rattle.std.proofs.lemmas.List.Elements.{Contains-append_left, Contains-push, Contains-push_cases}
use Rattle.std.proofs.lemmas.Option.{get_or_from_slice_get, slice_get_within}
use Rattle.sd_base.proofs.ElementsKeepPlaces.{get-there}

pub contains-here : {A : Type 0} (x : A) (xs : List A) → Contains (x ∷ xs) x
contains-here x xs = (0, omega arith, refl)

pub contains-later : {A : Type 0} (x : A) (xs : List A) (y : A) → Contains xs y → Contains (x ∷ xs) y
contains-later x xs y (k, below, same) = (suc k, omega arith, same)

pub contains-none : {A : Type 0} (y : A) → Contains [] y → ⊥
contains-none y (k, below, same) = omega arith

pub contains-cases : {A : Type 0} (x : A) (xs : List A) (y : A) → Contains (x ∷ xs) y → (x ≡ y) ⊎ Contains xs y
contains-cases x xs y (zero, below, same) = inl same
contains-cases x xs y (suc k, below, same) = inr (k, omega arith, same)

pub contains-map : {A B : Type 0} (f : A → B) (xs : List A) (x : A) → Contains xs x → Contains (map f xs) (f x)
contains-map f [] x one = absurd (contains-none x one)
contains-map f (z ∷ xs) x one =
    ⊎_elim
    (λ (same : z ≡ x). subst (λ y. Contains (f z ∷ map f xs) (f y)) same (contains-here (f z) (map f xs)))
    (λ (later : Contains xs x). contains-later (f z) (map f xs) (f x) (contains-map f xs x later))
    (contains-cases z xs x one)

pub contains-unmap : {A B : Type 0} (f : A → B) (xs : List A) (y : B) → Contains (map f xs) y → (x : A) × Contains xs x × (f x ≡ y)
contains-unmap f [] y one = absurd (contains-none y one)
contains-unmap f (z ∷ xs) y one =
    ⊎_elim
    (λ (same : f z ≡ y). (z, contains-here z xs, same))
    (λ (later : Contains (map f xs) y). let found = contains-unmap f xs y later in (found.0, contains-later z xs found.0 found.1, found.2))
    (contains-cases (f z) (map f xs) y one)

-- an element of a list has a place

pub contains-get : {A : Type 0} (xs : List A) (x : A) → Contains xs x → (k : ℕ) × (slice_get xs k ≡ Some x)
contains-get xs x (k, below, same) =
    let there = get-there xs k below in
    (k, there.1 ∙ ap Some (sym (get_or_from_slice_get xs k there.0 x there.1) ∙ same))

pub get-contains : {A : Type 0} (xs : List A) (k : ℕ) (x : A) → slice_get xs k ≡ Some x → Contains xs x
get-contains xs k x at = (k, slice_get_within xs k x at, get_or_from_slice_get xs k x x at)

-- the numbers below n that P tells, and n itself if P tells it

pub listed-more : (P : ℕ → Type 0) (xs : List ℕ) (n : ℕ) → ((c : ℕ) → Contains xs c ↔ ((c < n) × P c)) → P n → (c : ℕ) → Contains (xs ++ n ∷ []) c ↔ ((c < n + 1) × P c)
listed-more P xs n listed here c = (
  λ has. ⊎_elim (λ (h : Contains xs c). let old = (listed c).0 h in (omega (arith, old.0), old.1)) (λ (h : n ≡ c). (omega (arith, h), subst P h here)) (Contains-push_cases xs n c has),
  λ both. ⊎_elim (λ (less : c < n). Contains-append_left xs (n ∷ []) c ((listed c).1 (less, both.1)))
      (λ (past : n ≤ c). let same : n ≡ c = omega (arith, past, both.0) in subst (Contains (xs ++ n ∷ [])) same (Contains-push xs n)) (cases_lt c n),
)

pub listed-other : (P : ℕ → Type 0) (xs : List ℕ) (n : ℕ) → ((c : ℕ) → Contains xs c ↔ ((c < n) × P c)) → (P n → ⊥) → (c : ℕ) → Contains xs c ↔ ((c < n + 1) × P c)
listed-other P xs n listed none c = (
  λ has. let old = (listed c).0 has in (omega (arith, old.0), old.1),
  λ both. ⊎_elim (λ (less : c < n). (listed c).1 (less, both.1)) (λ (past : n ≤ c). let same : c ≡ n = omega (arith, past, both.0) in absurd (none (subst P same both.1))) (cases_lt c n),
)
