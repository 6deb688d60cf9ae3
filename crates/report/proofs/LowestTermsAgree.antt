-- A fraction in lowest terms is one text, as its definition gives it and as it is computed.
use Rattle.std.proofs.Common.{◌≡◌, ℕ, zero, suc, ◌*◌, ◌/◌, ◌%◌, ◌<◌, ◌≤◌, Bool, true, false, ⊎_elim, sym, ap, ◌∙◌, subst, refl, arith, eqb-true}
use Rattle.std.specs.Prelude.{◌&&◌, ◌==◌, if◌then◌else◌}
use Rattle.std.specs.Int.{IsGcd, ◌∣◌}
use Rattle.std.proofs.Math.Nat.{one-dvd, mul-div_cancel', eq_of_mul-eq-mul_right}
use Rattle.std.proofs.lemmas.Bool.{and_parts, cases_lt}
use Rattle.std.proofs.lemmas.Nat.Gcd.{IsGcd-swap, le_from_IsGcd, le_of_dvd, dvd_antisymm, dvd_of_mod-eq-zero, mod-eq-zero_of_dvd}
use Rattle.sd_base.proofs.LeastMultiplesDivide.{gcd_pos, quotients, root_divides, some_gcd}
use Rattle.report.specs.FractionTexts.{divisor_within, fraction_text, lowest_text}

-- g divides both, and no number up to n that does is greater
record IsGreatest (a b n g : ℕ) : Type 0 where
  first : g ∣ a
  second : g ∣ b
  greatest : (d : ℕ) → 0 < d → d ≤ n → d ∣ a → d ∣ b → d ≤ g

divides-both : (a b d : ℕ) → d ∣ a → d ∣ b → ((a % d == 0) && (b % d == 0)) ≡ true
divides-both a b d one other = rw (mod-eq-zero_of_dvd d one, mod-eq-zero_of_dvd d other) refl

within-step : (a b n r : ℕ) → IsGreatest a b n r → (t : Bool) → ((a % suc n == 0) && (b % suc n == 0)) ≡ t → IsGreatest a b (suc n) (if t then suc n else r)
within-step a b n r before true test =
    let parts = and_parts (a % suc n == 0) (b % suc n == 0) test in
    record {
      first = dvd_of_mod-eq-zero (suc n) (eqb-true (a % suc n) 0 parts.0);
      second = dvd_of_mod-eq-zero (suc n) (eqb-true (b % suc n) 0 parts.1);
      greatest = λ d some within one other. within;
    }
within-step a b n r before false test = record {
  first = before.first;
  second = before.second;
  greatest = λ d some within one other. ⊎_elim
      (λ (less : d < suc n). before.greatest d some (omega arith) one other)
      (λ (last : suc n ≤ d).
      let same : d ≡ suc n = omega arith in
      let passes : ((a % suc n == 0) && (b % suc n == 0)) ≡ true = divides-both a b (suc n) (rw same at one) (rw same at other) in
      absurd (Rattle.std.proofs.Common.true≢false (sym passes ∙ test)))
      (cases_lt d (suc n));
}

within-is : (a b n : ℕ) → IsGreatest a b n (divisor_within a b n)
unfolding divisor_within
within-is a b zero = record { first = one-dvd a; second = one-dvd b; greatest = λ d some within one other. absurd (omega arith) }
within-is a b (suc n) = within-step a b n (divisor_within a b n) (within-is a b n) ((a % suc n == 0) && (b % suc n == 0)) refl

-- the greatest common divisor by order is that by division
within-gcd : (a b : ℕ) → 0 < b → IsGcd a b (divisor_within a b b)
within-gcd a b some =
    let found = some_gcd (suc b) a b (omega arith) in
    let g : ℕ = found.0 in
    let is : IsGcd a b g = found.1 in
    let positive : 0 < g = gcd_pos b a g some (IsGcd-swap a b g is) in
    let most : IsGreatest a b b (divisor_within a b b) = within-is a b b in
    let up : g ≤ divisor_within a b b = most.greatest g positive (le_of_dvd some is.1) is.0 is.1 in
    let down : divisor_within a b b ≤ g = le_from_IsGcd a b g (divisor_within a b b) is positive most.first most.second in
    let same : g ≡ divisor_within a b b = omega arith in
    subst (λ (d : ℕ). IsGcd a b d) same is

-- equal fractions in lowest terms are one
module _ (n d num den : ℕ) (some : 0 < d) (positive : 0 < den) (lowest : IsGcd num den 1) (cross : num * d ≡ n * den) where
  divisor : ℕ
  divisor = divisor_within n d d

  is : IsGcd n d divisor
  unfolding divisor
  is = within-gcd n d some

  divisor-some : 0 < divisor
  divisor-some = gcd_pos d n divisor some (IsGcd-swap n d divisor is)

  crossed : n / divisor * den ≡ d / divisor * num
  crossed =
      let left : divisor * (n / divisor) ≡ n = mul-div_cancel' divisor is.0 in
      let right : divisor * (d / divisor) ≡ d = mul-div_cancel' divisor is.1 in
      let one : n * den ≡ (divisor * (n / divisor)) * den = ap (λ (x : ℕ). x * den) (sym left) in
      let other : num * d ≡ num * (divisor * (d / divisor)) = ap (λ (x : ℕ). num * x) (sym right) in
      eq_of_mul-eq-mul_right divisor divisor-some (n / divisor * den) (d / divisor * num) (omega arith)

  den-is : den ≡ d / divisor
  den-is = dvd_antisymm (root_divides num den (d / divisor) (n / divisor) lowest crossed)
      (root_divides (n / divisor) (d / divisor) den num (quotients n d divisor divisor-some is) (omega (arith, crossed)))

  num-is : num ≡ n / divisor
  num-is =
      let swap : n / divisor * den ≡ den * num = crossed ∙ ap (λ (x : ℕ). x * num) (sym den-is) in
      eq_of_mul-eq-mul_right den positive num (n / divisor) (omega arith)

  pub lowest-is : lowest_text n d ≡ fraction_text num den
  unfolding lowest_text divisor
  lowest-is = ap (λ (x : ℕ). fraction_text x (d / divisor_within n d d)) (sym num-is) ∙ ap (λ (y : ℕ). fraction_text num y) (sym den-is)
