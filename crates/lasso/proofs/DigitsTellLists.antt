-- Numbers that tell lists of small numbers apart, and lists of such lists.
use Rattle.std.proofs.Common.{◌≡◌, ℕ, zero, suc, ◌+◌, ◌*◌, ◌≤◌, ◌<◌, ◌⊎◌, List, [], ◌∷◌, length, map, inl, inr, refl, ap, arith, mul-le-mul_left}
use Rattle.std.proofs.lemmas.Bool.{cases_lt}

-- the list as the digits of a number, each one more than it is, so that none is 0
pub code : ℕ → List ℕ → ℕ
code base [] = 0
code base (x ∷ xs) = x + 1 + base * code base xs

-- one more than each number is a digit
abbrev pub AreDigits : ℕ → List ℕ → Type 0
AreDigits base [] = Unit {0}
AreDigits base (x ∷ xs) = (x + 1 < base) × AreDigits base xs

-- so many digits give fewer numbers than this
pub numbers : ℕ → ℕ → ℕ
numbers base zero = 1
numbers base (suc most) = base * numbers base most

numbers-more : (base most : ℕ) → numbers base (suc most) ≡ base * numbers base most
unfolding numbers
numbers-more base most = refl

some-numbers : (base most : ℕ) → 1 ≤ base → 1 ≤ numbers base most
unfolding numbers
some-numbers base zero some = omega arith
some-numbers base (suc most) some =
    let scaled : base * 1 ≤ base * numbers base most = mul-le-mul_left base (some-numbers base most some) in
    omega (arith, scaled, some)

pub code-small : (base most : ℕ) (xs : List ℕ) → 1 ≤ base → AreDigits base xs → length xs ≤ most → code base xs < numbers base most
unfolding code
code-small base most [] some digits few = omega (arith, some-numbers base most some)
code-small base zero (x ∷ xs) some digits few = absurd (omega arith)
code-small base (suc most) (x ∷ xs) some digits few = more (code-small base most xs some digits.1 (omega (arith, few)))
  where
    more : code base xs < numbers base most → x + 1 + base * code base xs < numbers base (suc most)
    more small =
        let scaled : base * (code base xs + 1) ≤ base * numbers base most = mul-le-mul_left base (omega (arith, small)) in
        omega (arith, scaled, numbers-more base most, digits.0)

-- digits and what stands before them are told by a number
pub one-digit : (base x y p q : ℕ) → x < base → y < base → x + base * p ≡ y + base * q → (x ≡ y) × (p ≡ q)
one-digit base x y p q first second same = at (cases_lt p q) (cases_lt q p)
  where
    at : (p < q) ⊎ (q ≤ p) → (q < p) ⊎ (p ≤ q) → (x ≡ y) × (p ≡ q)
    at (inl less) other = absurd (let scaled : base * (p + 1) ≤ base * q = mul-le-mul_left base (omega (arith, less)) in omega (arith, scaled, same, first))
    at (inr no_less) (inl more) = absurd (let scaled : base * (q + 1) ≤ base * p = mul-le-mul_left base (omega (arith, more)) in omega (arith, scaled, same, second))
    at (inr no_less) (inr no_more) = let one : p ≡ q = omega (arith, no_less, no_more) in (omega (arith, ap (λ (k : ℕ). base * k) one, same), one)

pub same-digits : (base : ℕ) (xs ys : List ℕ) → AreDigits base xs → AreDigits base ys → code base xs ≡ code base ys → xs ≡ ys
unfolding code
same-digits base [] [] first second same = refl
same-digits base [] (y ∷ ys) first second same = absurd (omega (arith, same))
same-digits base (x ∷ xs) [] first second same = absurd (omega (arith, same))
same-digits base (x ∷ xs) (y ∷ ys) first second same =
    let parts = one-digit base (x + 1) (y + 1) (code base xs) (code base ys) first.0 second.0 same in
    let head : x ≡ y = omega (arith, parts.0) in
    let rest : xs ≡ ys = same-digits base xs ys first.1 second.1 parts.1 in
    rw head (rw rest refl)

-- each list has no more than so many numbers, which are digits
abbrev pub AreRows : ℕ → ℕ → List (List ℕ) → Type 0
AreRows base most [] = Unit {0}
AreRows base most (row ∷ rows) = AreDigits base row × (length row ≤ most) × AreRows base most rows

pub rows-digits : (base most : ℕ) (rows : List (List ℕ)) → 1 ≤ base → AreRows base most rows → AreDigits (numbers base most + 1) (map (code base) rows)
rows-digits base most [] some small = tt
rows-digits base most (row ∷ rows) some small =
    (omega (arith, code-small base most row some small.0 small.1), rows-digits base most rows some small.2)

first-of : List ℕ → ℕ
first-of [] = 0
first-of (x ∷ xs) = x

rest-of : List ℕ → List ℕ
rest-of [] = []
rest-of (x ∷ xs) = xs

pub same-rows : (base most : ℕ) (xs ys : List (List ℕ)) → AreRows base most xs → AreRows base most ys → map (code base) xs ≡ map (code base) ys → xs ≡ ys
unfolding first-of rest-of
same-rows base most [] [] first second same = refl
same-rows base most [] (y ∷ ys) first second same = absurd (omega (arith, ap length same))
same-rows base most (x ∷ xs) [] first second same = absurd (omega (arith, ap length same))
same-rows base most (x ∷ xs) (y ∷ ys) first second same =
    let head : x ≡ y = same-digits base x y first.0 second.0 (ap first-of same) in
    let rest : xs ≡ ys = same-rows base most xs ys first.2 second.2 (ap rest-of same) in
    rw head (rw rest refl)
