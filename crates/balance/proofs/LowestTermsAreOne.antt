-- Ratios in lowest terms.
use Rattle.std.proofs.Common.{◌≡◌, ℕ, ◌*◌, ◌/◌, ◌<◌, ap, inl, inr, arith}
use Rattle.std.specs.Int.{IsGcd, ◌∣◌}
use Rattle.std.proofs.Math.Nat.{eq_of_mul-eq-mul_right, mul-pos}
use Rattle.std.proofs.lemmas.Nat.Gcd.{dvd_antisymm, IsGcd-swap}
use Rattle.std.proofs.lemmas.Bool.{cases_lt}
use Rattle.sd_base.proofs.LeastMultiplesDivide.{root_divides, quotients, quotient_pos, reduced_same, gcd_pos}
use Rattle.balance.specs.Walks.{IsLowest}

-- the numerator is above 0 where the ratio is
pub lowest_pos : (n d N D : ℕ) → IsLowest n d N D → 0 < N → 0 < n
lowest_pos n d N D (e, coprime, some) sn = elim (cases_lt 0 n) [
  | inl h ↦ h
  | inr h ↦
      let z : n ≡ 0 = omega arith in
      let none : n * D ≡ 0 = omega (arith, ap (λ t. t * D) z) in
      let more : 0 < d * N = mul-pos some sn in
      absurd (omega arith)
]

-- the denominator divides that of each fraction of the same value
den_divides : (n d n' d' N D : ℕ) → IsLowest n d N D → n' * D ≡ d' * N → 0 < D → 0 < N → d ∣ d'
den_divides n d n' d' N D (e, coprime, some) e' sd sn =
    let cross : n' * d * D ≡ d' * n * D = omega (arith, ap (λ t. t * d) e', ap (λ t. t * d') e) in
    root_divides n d d' n' coprime (eq_of_mul-eq-mul_right D sd (n' * d) (d' * n) cross)

-- the lowest terms of a ratio are one pair
pub one_lowest : (n d n' d' N D : ℕ) → IsLowest n d N D → IsLowest n' d' N D → 0 < N → 0 < D → (n ≡ n') × (d ≡ d')
one_lowest n d n' d' N D h k sn sd =
    let dens : d ≡ d' = dvd_antisymm (den_divides n d n' d' N D h k.0 sd sn) (den_divides n' d' n d N D k h.0 sd sn) in
    let e : n * D ≡ d * N = h.0 in
    let e' : n' * D ≡ d' * N = k.0 in
    let same : n * D ≡ n' * D = omega (arith, ap (λ t. t * N) dens) in
    (eq_of_mul-eq-mul_right D sd n n' same, dens)

-- dividing both parts by their greatest common divisor
pub lowest_by : (num den g : ℕ) → 0 < den → IsGcd num den g → IsLowest (num / g) (den / g) num den
lowest_by num den g some is =
    let pos : 0 < g = gcd_pos den num g some (IsGcd-swap num den g is) in
    let e : (num / g) * den ≡ num * (den / g) = reduced_same num den g is.0 is.1 in
    (omega arith, quotients num den g pos is, quotient_pos den g some is.1)

-- a ratio in lowest terms times another one
pub lowest_times : (n d N D n' d' x y : ℕ) → IsLowest n d N D → IsLowest n' d' (n * x) (d * y) → 0 < n → IsLowest n' d' (N * x) (D * y)
lowest_times n d N D n' d' x y (e, coprime, some) (e', coprime', some') sn =
    let cross : n' * (D * y) * n ≡ d' * (N * x) * n = omega (arith, ap (λ t. t * (n' * y)) e, ap (λ t. t * N) e') in
    (eq_of_mul-eq-mul_right n sn (n' * (D * y)) (d' * (N * x)) cross, coprime', some')

-- what is in proportion to a ratio is in proportion to it in lowest terms
pub reduced : (y x N D n d : ℕ) → y * D ≡ x * N → n * D ≡ d * N → 0 < N → y * d ≡ x * n
reduced y x N D n d h e some =
    let cross : y * d * N ≡ x * n * N = omega (arith, ap (λ t. t * n) h, ap (λ t. t * y) e) in
    eq_of_mul-eq-mul_right N some (y * d) (x * n) cross

-- whether two ratios and a factor agree is the same of their lowest terms
pub kept_by_lowest : (n d N D n' d' N' D' x y : ℕ) → IsLowest n d N D → IsLowest n' d' N' D'
    → n * x * d' ≡ n' * y * d → N * x * D' ≡ N' * y * D
kept_by_lowest n d N D n' d' N' D' x y (e, _, some) (e', _, some') h =
    let cross : N * x * D' * (d * d') ≡ N' * y * D * (d * d') =
    omega (arith, ap (λ t. t * (x * d' * D')) e, ap (λ t. t * (y * d * D)) e', ap (λ t. t * (D * D')) h) in
    eq_of_mul-eq-mul_right (d * d') (mul-pos some some') (N * x * D') (N' * y * D) cross

pub lowest_by_kept : (n d N D n' d' N' D' x y : ℕ) → IsLowest n d N D → IsLowest n' d' N' D' → 0 < D → 0 < D'
    → N * x * D' ≡ N' * y * D → n * x * d' ≡ n' * y * d
lowest_by_kept n d N D n' d' N' D' x y (e, _, some) (e', _, some') sd sd' h =
    let cross : n * x * d' * (D * D') ≡ n' * y * d * (D * D') =
    omega (arith, ap (λ t. t * (x * d' * D')) e, ap (λ t. t * (y * d * D)) e', ap (λ t. t * (d * d')) h) in
    eq_of_mul-eq-mul_right (D * D') (mul-pos sd sd') (n * x * d') (n' * y * d) cross
