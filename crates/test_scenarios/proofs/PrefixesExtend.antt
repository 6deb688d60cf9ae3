-- What holds before a place of a list and there holds before the next one.
use Rattle.std.proofs.Common.{◌≡◌, ℕ, ◌+◌, ◌≤◌, ◌<◌, List, Some, ⊎_elim, sym, subst, arith}
use Rattle.std.specs.Prelude.{slice_get}
use Rattle.std.proofs.lemmas.Bool.{cases_lt}

-- what holds before a place and there holds before the next one
pub further : {X : Type 0} (P : ℕ → X → Type 0) (xs : List X) (n : ℕ) (x : X) → slice_get xs n ≡ Some x → P n x
    → ((k : ℕ) (y : X) → slice_get xs k ≡ Some y → k < n → P k y) → (k : ℕ) (y : X) → slice_get xs k ≡ Some y → k < n + 1 → P k y
further P xs n x here holds before k y get below = ⊎_elim
    (λ (less : k < n). before k y get less)
    (λ (past : n ≤ k).
    let e : n ≡ k = omega arith in
    let there : slice_get xs n ≡ Some y = subst (λ m. slice_get xs m ≡ Some y) (sym e) get in
    let s : x ≡ y = cc (here, there) in
    subst (λ m. P m y) e (subst (λ z. P n z) s holds))
    (cases_lt k n)
