-- The least common multiple, a number times the other's cofactor, divides each common multiple; Euclid's lemma.
use Rattle.std.proofs.Common.{◌≡◌, ℕ, zero, suc, ◌+◌, ◌*◌, ◌/◌, ◌%◌, ◌<◌, ◌≤◌, sym, ap, subst, inl, inr, arith, ◌∙◌}
use Rattle.std.specs.Int.{IsGcd, ◌∣◌}
use Rattle.std.proofs.Math.Nat.{dvd-mod_iff, dvd-add_iff_right, dvd-mul_right_of_dvd, dvd-mul_left, dvd-mul_right, div-add-mod', mul-div_cancel', dvd_of_mul-dvd-mul_left, mul-dvd-mul_left, mul-dvd-mul_right, one-dvd, eq-zero_of_zero-dvd, mul-lt-mul_of_pos_right, div-lt_iff_lt-mul, le-div_iff_mul-le, eq_of_mul-eq-mul_right}
use Rattle.std.proofs.lemmas.Nat.{mod_below}
use Rattle.std.proofs.lemmas.Nat.Gcd.{IsGcd-from_zero, IsGcd-swap, same_from_IsGcd, le_of_dvd, IsGcd-from_mod, dvd_antisymm}
use Rattle.std.proofs.lemmas.Bool.{cases_lt}
use Rattle.sd_base.specs.Numbers.{IsLcm, IsAboveLimit}

-- the other way round than `IsGcd-from_mod`
mod_from : (a b g : ℕ) → IsGcd a b g → IsGcd b (a % b) g
mod_from a b g h = (h.1, (dvd-mod_iff g h.1).1 h.0, λ d p q. h.2 d ((dvd-mod_iff d p).0 q) p)

split : (v a b : ℕ) → (v * b) * (a / b) + v * (a % b) ≡ v * a
split v a b = omega (arith, ap (λ n. v * n) (div-add-mod' a b))

-- a factor of both numbers is a factor of their greatest common divisor
pub scaled : (fuel v a b g : ℕ) → b < fuel → IsGcd a b g → IsGcd (v * a) (v * b) (v * g)
scaled zero v a b g h is = absurd (let no : ⊥ = omega arith in no)
scaled (suc fuel) v a b g h is =
    elim (cases_lt 0 b) [
      | inl some ↦
          let low : a % b < b = mod_below a b some in
          let at : IsGcd (v * b) (v * (a % b)) (v * g) = scaled fuel v b (a % b) g (omega arith) (mod_from a b g is) in
          let over : (d : ℕ) → d ∣ v * b → d ∣ (v * b) * (a / b) = λ d p. dvd-mul_right_of_dvd d p (a / b) in (
            subst (λ n. v * g ∣ n) (split v a b) ((dvd-add_iff_right (v * g) (over (v * g) at.0)).0 at.1),
            at.0,
            λ d p q. at.2 d q ((dvd-add_iff_right d (over d q)).1 (subst (λ n. d ∣ n) (sym (split v a b)) p)),
          )
      | inr none ↦
          let e : b ≡ 0 = omega arith in
          let same : a ≡ g = same_from_IsGcd a b a g (IsGcd-from_zero a b e) is in
          let e' : v * b ≡ 0 = omega (arith, ap (λ n. v * n) e) in
          subst (λ n. IsGcd (v * a) (v * b) (v * n)) same (IsGcd-from_zero (v * a) (v * b) e')
    ]

-- what divides a product and has no divisor in common with the one factor divides the other
pub euclid : (d n v : ℕ) → IsGcd n d 1 → d ∣ v * n → d ∣ v
euclid d n v coprime h =
    let at : IsGcd (v * n) (v * d) (v * 1) = scaled (suc d) v n d 1 (omega arith) coprime in
    subst (λ m. d ∣ m) (omega arith) (at.2 d h (dvd-mul_left d v))

-- the quotients by the greatest common divisor have no common divisor but 1
pub quotients : (a b g : ℕ) → 0 < g → IsGcd a b g → IsGcd (a / g) (b / g) 1
quotients a b g some is =
    let ea : g * (a / g) ≡ a = mul-div_cancel' g is.0 in
    let eb : g * (b / g) ≡ b = mul-div_cancel' g is.1 in (
      one-dvd (a / g),
      one-dvd (b / g),
      λ d p q.
          let up : g * d ∣ g = is.2 (g * d) (subst (λ n. g * d ∣ n) ea (mul-dvd-mul_left d g p)) (subst (λ n. g * d ∣ n) eb (mul-dvd-mul_left d g q)) in
          dvd_of_mul-dvd-mul_left d some (subst (λ n. g * d ∣ n) (omega arith) up),
    )

-- a number times the cofactor of the other divides each common multiple
pub lcm_least : (a b g m : ℕ) → 0 < g → IsGcd a b g → a ∣ m → b ∣ m → (a / g) * b ∣ m
lcm_least a b g m some is am bm =
    let ea : g * (a / g) ≡ a = mul-div_cancel' g is.0 in
    let eb : g * (b / g) ≡ b = mul-div_cancel' g is.1 in
    let em : b * (m / b) ≡ m = mul-div_cancel' b bm in
    let whole : g * ((m / b) * (b / g)) ≡ m =
    omega (arith, ap (λ n. n * (m / b)) eb, em) in
    let up : g * (a / g) ∣ g * ((m / b) * (b / g)) = subst (λ n. n ∣ g * ((m / b) * (b / g))) (sym ea) (subst (λ n. a ∣ n) (sym whole) am) in
    let low : a / g ∣ (m / b) * (b / g) = dvd_of_mul-dvd-mul_left (a / g) some up in
    let left : a / g ∣ m / b = euclid (a / g) (b / g) (m / b) (IsGcd-swap (a / g) (b / g) 1 (quotients a b g some is)) low in
    subst (λ n. (a / g) * b ∣ n) (omega (arith, em)) (mul-dvd-mul_right (a / g) left b)

-- the denominator of a ratio in lowest terms divides what the ratio keeps whole
pub root_divides : (n d x y : ℕ) → IsGcd n d 1 → y * d ≡ x * n → d ∣ x
root_divides n d x y coprime e = euclid d n x coprime (subst (λ m. d ∣ m) e (dvd-mul_left d y))

-- a greatest common divisor with a number above 0 is above 0
pub gcd_pos : (a b g : ℕ) → 0 < a → IsGcd a b g → 0 < g
gcd_pos a b g some is = elim (cases_lt 0 g) [
  | inl h ↦ h
  | inr h ↦
      let z : g ≡ 0 = omega arith in
      let e : a ≡ 0 = eq-zero_of_zero-dvd (subst (λ n. n ∣ a) z is.0) in
      absurd (omega arith)
]

-- a fraction keeps its value when both parts are divided by a common divisor
pub reduced_same : (n d g : ℕ) → g ∣ n → g ∣ d → (n / g) * d ≡ n * (d / g)
reduced_same n d g gn gd =
    let en : g * (n / g) ≡ n = mul-div_cancel' g gn in
    let ed : g * (d / g) ≡ d = mul-div_cancel' g gd in
    omega (arith, ap (λ x. x * (d / g)) en, ap (λ x. (n / g) * x) ed)

-- the quotient of a number above 0 by a divisor is above 0
pub quotient_pos : (a g : ℕ) → 0 < a → g ∣ a → 0 < a / g
quotient_pos a g some is = elim (cases_lt 0 (a / g)) [
  | inl h ↦ h
  | inr h ↦
      let z : a / g ≡ 0 = omega arith in
      let e : g * (a / g) ≡ a = mul-div_cancel' g is in
      let e' : g * (a / g) ≡ g * 0 = ap (λ n. g * n) z in
      absurd (omega arith)
]

-- a number times the cofactor of the other is the least common multiple
pub lcm_from_gcd : (a b g : ℕ) → 0 < a → 0 < b → IsGcd a b g → IsLcm a b ((a / g) * b)
lcm_from_gcd a b g sa sb is =
    let some : 0 < g = gcd_pos a b g sa is in
    let part : 0 < a / g = quotient_pos a g sa is.0 in (
      omega (arith, mul-lt-mul_of_pos_right part sb),
      subst (λ n. a ∣ n) (sym (reduced_same a b g is.0 is.1)) (dvd-mul_right a (b / g)),
      dvd-mul_left b (a / g),
      λ n p q. lcm_least a b g n some is p q,
    )

-- where the cofactor is above the limit's quotient, so is each common multiple above the limit
pub lcm_above : (a b g limit : ℕ) → 0 < a → 0 < b → IsGcd a b g → limit / b < a / g → IsAboveLimit a b limit
lcm_above a b g limit sa sb is above n some p q =
    let all = lcm_from_gcd a b g sa sb is in
    let low : (a / g) * b ≤ n = le_of_dvd some (all.3 n p q) in
    let wide : limit < (a / g) * b = (div-lt_iff_lt-mul sb).0 above in
    omega arith

-- where it is not, the least common multiple is within the limit
pub lcm_fits : (b part limit : ℕ) → 0 < b → part ≤ limit / b → part * b ≤ limit
lcm_fits b part limit sb within = (le-div_iff_mul-le sb).0 within

-- the greatest common divisor of numbers below a bound is below it
pub gcd_below : (a b g m : ℕ) → IsGcd a b g → a < m → b < m → g < m
gcd_below a b g m is first second =
    elim (cases_lt 0 b) [
      | inl some ↦ (let le : g ≤ b = le_of_dvd some is.1 in omega arith)
      | inr none ↦ (let same : a ≡ g = same_from_IsGcd a b a g (IsGcd-from_zero a b (omega arith)) is in omega arith)
    ]

-- two numbers have a greatest common divisor
pub some_gcd : (fuel a b : ℕ) → b < fuel → (g : ℕ) × IsGcd a b g
some_gcd zero a b below = absurd (let none : ⊥ = omega arith in none)
some_gcd (suc fuel) a b below = elim (cases_lt 0 b) [
  | inl some ↦
      let low : a % b < b = mod_below a b some in
      let (g, is) = some_gcd fuel b (a % b) (omega arith) in
      (g, IsGcd-from_mod a b g is)
  | inr none ↦ (a, IsGcd-from_zero a b (omega arith))
]

-- equal fractions in lowest terms have equal parts
pub same_fraction : (p q x y : ℕ) → 1 ≤ q → 1 ≤ y → IsGcd p q 1 → IsGcd x y 1 → p * y ≡ x * q → (p ≡ x) × (q ≡ y)
same_fraction p q x y some there one other cross =
    let left : q ∣ y = root_divides p q y x one (sym cross ∙ omega arith) in
    let right : y ∣ q = root_divides x y q p other (cross ∙ omega arith) in
    let same : q ≡ y = dvd_antisymm left right in
    let mine : p * y ≡ x * y = cross ∙ ap (λ (z : ℕ). x * z) same in
    (eq_of_mul-eq-mul_right y there p x mine, same)
