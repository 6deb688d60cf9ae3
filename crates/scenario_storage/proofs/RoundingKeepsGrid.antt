-- Rounding keeps what is on the grid.
use Rattle.std.proofs.Common.{◌≡◌, ℕ, zero, suc, ◌-◌, ◌*◌, ◌/◌, Option, None, Some, List, [], ◌∷◌, refl, ap, ◌∙◌, arith}
use Rattle.std.proofs.Math.Nat.{mul-div_cancel}
use Rattle.sd_base.specs.Net.{Channel}
use Rattle.storage.specs.Steps.{IsOnGrid, IsOnStep, rounded, rounded_at, step_of}

whole-kept : (n s : ℕ) → n * s / s * s ≡ n * s
whole-kept n zero = omega arith
whole-kept n (suc s) = ap (λ (k : ℕ). k * suc s) (mul-div_cancel n {n = suc s} (omega arith))

step-kept : (c : Channel) (k : ℕ) → IsOnStep c k → rounded_at c k ≡ k
unfolding rounded_at
step-kept c k (n, is) =
    let room : k - c.tokens ≡ n * step_of c = omega (arith, is) in
    let same : (k - c.tokens) / step_of c * step_of c ≡ n * step_of c = ap (λ (x : ℕ). x / step_of c * step_of c) room ∙ whole-kept n (step_of c) in
    omega (arith, same, is)

pub grid-kept : (cs : List Channel) (ds : List (Option ℕ)) → IsOnGrid cs ds → rounded cs ds ≡ ds
grid-kept [] [] grid = refl
grid-kept [] (d ∷ ds) grid = absurd grid
grid-kept (c ∷ cs) [] grid = refl
grid-kept (c ∷ cs) (None ∷ ds) grid = ap (λ (es : List (Option ℕ)). None ∷ es) (grid-kept cs ds grid)
grid-kept (c ∷ cs) (Some k ∷ ds) grid = ap (λ (x : ℕ). Some x ∷ rounded cs ds) (step-kept c k grid.0) ∙ ap (λ (es : List (Option ℕ)). Some k ∷ es) (grid-kept cs ds grid.1)
