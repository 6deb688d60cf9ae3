-- An element of two joined lists is one of the first or, later, one of the second.
use Rattle.std.proofs.Common.{◌≡◌, ℕ, zero, suc, ◌+◌, ◌⊎◌, Some, List, [], ◌∷◌, ◌++◌, length, inl, inr, ⊎_elim, subst, arith}
use Rattle.std.specs.Prelude.{slice_get}

abbrev pub IsLater : {X : Type 0} → List X → List X → ℕ → X → Type 0
IsLater xs ys i x = (j : ℕ) × (i ≡ length xs + j) × (slice_get ys j ≡ Some x)

pub at-either : {X : Type 0} (xs ys : List X) (i : ℕ) (x : X) → slice_get (xs ++ ys) i ≡ Some x → (slice_get xs i ≡ Some x) ⊎ IsLater xs ys i x
at-either [] ys i x at = let e : i ≡ 0 + i = omega arith in inr (i, e, at)
at-either (y ∷ xs) ys zero x at = inl at
at-either (y ∷ xs) ys (suc i) x at = ⊎_elim (λ left. inl left) (λ (right : IsLater xs ys i x). inr (right.0, (let e : suc i ≡ suc (length xs) + right.0 = omega (arith, right.1) in e), right.2))
    (at-either xs ys i x at)

pub at-right : {X : Type 0} (xs ys : List X) (j : ℕ) (x : X) → slice_get ys j ≡ Some x → slice_get (xs ++ ys) (length xs + j) ≡ Some x
at-right [] ys j x at = let e : j ≡ 0 + j = omega arith in subst (λ (n : ℕ). slice_get ys n ≡ Some x) e at
at-right (y ∷ xs) ys j x at = let e : suc (length xs + j) ≡ suc (length xs) + j = omega arith in subst (λ (n : ℕ). slice_get (y ∷ (xs ++ ys)) n ≡ Some x) e (at-right xs ys j x at)
