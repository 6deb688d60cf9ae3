-- Elements keep their places in lists that are mapped, pushed to and written piece by piece.
use Rattle.std.proofs.Common.{◌≡◌, ℕ, zero, suc, ◌+◌, ◌<◌, ◌≤◌, ◌⊎◌, Bool, true, false, ◌||◌, ◌==◌, Option, Some, None, List, [], ◌∷◌, ◌++◌, length, map, sum, take, replicate, get_or, inl, inr, ⊎_elim, refl, sym, ap, ◌∙◌, subst, arith, cond}
use Rattle.std.specs.Prelude.{slice_get, slice_index, slice_index_or, count_by}
use Rattle.std.specs.List.{All, list_all, list_any, flat_map, position_or_len, range_with_len, AllByRecursion}
use Rattle.std.specs.Option.{option_map}
use Rattle.std.proofs.lemmas.Bool.{cases_lt, or_cases}
use Rattle.std.proofs.lemmas.Option.{same_Some, none-some, slice_get-map, slice_get_within, get_or_from_slice_get, slice_get_read}
use Rattle.std.proofs.lemmas.List.{append_assoc, flat_map_more, get_or-map, get_or_past, length-map, length_push, take_all, take_more}
use Rattle.std.proofs.lemmas.List.Sums.{get_or-le-sum_by, sum_by-cons}

-- ---- an element by its place

pub get-there : {A : Type 0} (xs : List A) (i : ℕ) → i < length xs → (x : A) × (slice_get xs i ≡ Some x)
get-there [] i below = absurd (omega arith)
get-there (x ∷ xs) zero below = (x, refl)
get-there (x ∷ xs) (suc i) below = get-there xs i (omega arith)

pub get-map : {A B : Type 0} (f : A → B) (xs : List A) (i : ℕ) (x : A) → slice_get xs i ≡ Some x → slice_get (map f xs) i ≡ Some (f x)
get-map f xs i x at = slice_get-map f xs i ∙ ap (option_map f) at

-- the element that a loop over the same list is at
pub item-at : {A : Type 0} (xs ys : List A) (i : ℕ) (x : A) → ys ≡ xs → i < length ys → x ≡ slice_index_or ys i x → slice_get xs i ≡ Some x
item-at {A} xs ys i x same below is = subst (λ (zs : List A). slice_get zs i ≡ Some x) same (slice_get_read ys (length ys) i x refl below is)

-- of two lists one after the other, the first
pub get-left : {A : Type 0} (xs ys : List A) (i : ℕ) (x : A) → slice_get xs i ≡ Some x → slice_get (xs ++ ys) i ≡ Some x
get-left [] ys i x at = absurd (none-some x at)
get-left (z ∷ xs) ys zero x at = at
get-left (z ∷ xs) ys (suc i) x at = get-left xs ys i x at

-- the one that is pushed
pub get-last : {A : Type 0} (xs : List A) (y : A) → slice_get (xs ++ y ∷ []) (length xs) ≡ Some y
get-last [] y = refl
get-last (z ∷ xs) y = get-last xs y

-- one of those before, or the one that is pushed
pub get-pushed : {A : Type 0} (xs : List A) (y x : A) (i : ℕ) → slice_get (xs ++ y ∷ []) i ≡ Some x → (slice_get xs i ≡ Some x) ⊎ ((i ≡ length xs) × (x ≡ y))
get-pushed [] y x zero at = inr (refl, sym (same_Some y x at))
get-pushed [] y x (suc i) at = absurd (none-some x at)
get-pushed (z ∷ xs) y x zero at = inl at
get-pushed (z ∷ xs) y x (suc i) at = elim (get-pushed xs y x i at) [ inl old ↦ inl old | inr new ↦ inr (ap suc new.0, new.1) ]

-- what holds of all holds of each
pub all-get : {X : Type 0} (P : X → Type 0) (xs : List X) (i : ℕ) (x : X) → All P xs → slice_get xs i ≡ Some x → P x
all-get P xs i x all at = subst P (get_or_from_slice_get xs i x x at) (all i x (slice_get_within xs i x at))

-- where something is read, the list goes on
pub some-within : {A : Type 0} (xs : List (Option A)) (i : ℕ) (x : A) → slice_index_or xs i None ≡ Some x → i < length xs
some-within [] i x at = absurd (none-some x at)
some-within (o ∷ xs) zero x at = omega arith
some-within (o ∷ xs) (suc i) x at = let rest = some-within xs i x at in omega (arith, rest)

-- a list of one element many times, also past its end
pub replicate-same : {A : Type 0} (n i : ℕ) (x : A) → slice_index_or (replicate n x) i x ≡ x
replicate-same zero i x = refl
replicate-same (suc n) zero x = refl
replicate-same (suc n) (suc i) x = replicate-same n i x

-- ---- one more element

pub many-more : {X : Type 0} (xs ys : List X) (x : X) (n : ℕ) → length xs ≡ n → ys ≡ xs ++ x ∷ [] → length ys ≡ n + 1
many-more xs ys x n many pushed = ap length pushed ∙ (length_push xs x ∙ ap (λ (k : ℕ). k + 1) many)

pub push-all : {A : Type 0} (P : A → Type 0) (xs : List A) (x : A) → AllByRecursion P xs → P x → AllByRecursion P (xs ++ x ∷ [])
push-all P [] x all one = (one, tt)
push-all P (y ∷ xs) x all one = (all.0, push-all P xs x all.1 one)

pub range-more : (a n j : ℕ) → a + n ≡ j → range_with_len a (n + 1) ≡ range_with_len a n ++ j ∷ []
range-more a zero j is = let e : a ≡ j = omega arith in ap (λ (x : ℕ). x ∷ []) e
range-more a (suc n) j is =
    let f : suc n + 1 ≡ suc (n + 1) = omega arith in
    rw f (ap (λ (xs : List ℕ). a ∷ xs) (range-more (a + 1) n j (omega arith)))

-- ---- what is mapped

pub map-map : {A B C : Type 0} (f : B → C) (g : A → B) (xs : List A) → map f (map g xs) ≡ map (λ (x : A). f (g x)) xs
map-map f g [] = refl
map-map f g (x ∷ xs) = ap (λ ys. f (g x) ∷ ys) (map-map f g xs)

pub any-map : {X Y : Type 0} (f : X → Y) (test : Y → Bool) (xs : List X) → list_any (λ x. test (f x)) xs ≡ list_any test (map f xs)
any-map f test [] = refl
any-map f test (x ∷ xs) = ap (λ b. test (f x) || b) (any-map f test xs)

pub all-unmap : {A B : Type 0} (P : B → Type 0) (f : A → B) (xs : List A) → All P (map f xs) → All (λ (x : A). P (f x)) xs
all-unmap P f xs all = λ k d below. subst P (get_or-map f xs k d (f d) below) (all k (f d) (omega (arith, below, length-map xs f)))

-- ---- what is written piece by piece

-- a piece more is written and a piece less is left
pub piece_next : {E : Type 0} (done piece left rest whole new : List E) → left ≡ piece ++ rest → done ++ left ≡ whole → new ≡ done ++ piece → new ++ rest ≡ whole
piece_next done piece left rest whole new split kept is =
    ap (λ l. l ++ rest) is ∙ append_assoc done piece rest ∙ ap (λ l. done ++ l) (sym split) ∙ kept

-- a piece more for each element of a list
pub flat_next : {X : Type 0} (f : X → List ℕ) (start text new : List ℕ) (xs : List X) (i : ℕ) (d : X) → i < length xs → text ≡ start ++ flat_map f (take i xs)
    → new ≡ text ++ f (get_or xs i d) → new ≡ start ++ flat_map f (take (i + 1) xs)
flat_next f start text new xs i d h kept is =
    is ∙ (ap (λ (l : List ℕ). l ++ f (get_or xs i d)) kept ∙ (flat_map_more f start (take i xs) (get_or xs i d) ∙ ap (λ ys. start ++ flat_map f ys) (sym (take_more xs i d h))))

pub flat_end : {X : Type 0} (f : X → List ℕ) (start text : List ℕ) (xs : List X) (i : ℕ) → length xs ≤ i → text ≡ start ++ flat_map f (take i xs) → text ≡ start ++ flat_map f xs
flat_end f start text xs i past kept = kept ∙ ap (λ ys. start ++ flat_map f ys) (take_all i xs past)

-- ---- tests and sums

-- the place of an element that passes
pub any-place : {X : Type 0} (p : X → Bool) (d : X) (xs : List X) → list_any p xs ≡ true → (i : ℕ) × (i < length xs) × (p (slice_index_or xs i d) ≡ true)
any-place p d [] any = absurd (cc)
any-place p d (x ∷ xs) any = ⊎_elim
    (λ (here : p x ≡ true). (0, omega arith, here))
    (λ (later : list_any p xs ≡ true). let at = any-place p d xs later in (suc at.0, omega (arith, at.1), at.2))
    (or_cases (p x) (list_any p xs) any)

-- where no element passes, the first that does is past the end
pub place-none : {X : Type 0} (p : X → Bool) (xs : List X) → list_any p xs ≡ false → position_or_len p xs ≡ length xs
place-none p [] none = refl
place-none p (x ∷ xs) none = first (λ f. place-none p xs f) (p x) refl none
  where
    first : (list_any p xs ≡ false → position_or_len p xs ≡ length xs) → (b : Bool) → p x ≡ b → (b || list_any p xs) ≡ false → position_or_len p (x ∷ xs) ≡ length (x ∷ xs)
    first rest true e f = absurd cc
    first rest false e f = rw e (omega (arith, rest f))

pub ones-all : (n : ℕ) → list_all (λ r. r == 1) (replicate n 1) ≡ true
ones-all zero = refl
ones-all (suc n) = ones-all n

pub count-cons : {X : Type 0} (p : X → Bool) (x : X) (xs : List X) → count_by p (x ∷ xs) ≡ cond (p x) 1 0 + count_by p xs
count-cons p x xs = sum_by-cons (λ y. cond (p y) 1 0) x xs

-- each number of a list is at most their sum
pub entry-le-sum : (xs : List ℕ) (i : ℕ) → slice_index xs i ≤ sum xs
entry-le-sum xs i = ⊎_elim
    (λ (below : i < length xs). get_or-le-sum_by (λ (x : ℕ). x) xs i 0 below)
    (λ (past : length xs ≤ i). rw (get_or_past xs i 0 past) (omega arith))
    (cases_lt i (length xs))

-- the one number of a list that sums to some
pub single-some : (xs : List ℕ) (rate : ℕ) → length xs ≡ 1 → rate ≡ slice_index xs 0 → 1 ≤ sum xs → 0 < rate
single-some [] rate one is some = absurd (omega arith)
single-some (x ∷ y ∷ xs) rate one is some = absurd (omega arith)
single-some (x ∷ []) rate one is some = omega (arith, is)
