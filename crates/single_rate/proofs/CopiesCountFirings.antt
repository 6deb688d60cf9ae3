-- Which firings of an actor are in a schedule of its copies, and how many.
use Rattle.std.proofs.Common.{◌≡◌, ℕ, zero, suc, ◌+◌, ◌-◌, ◌*◌, ◌/◌, ◌%◌, ◌≤◌, ◌<◌, ◌⊎◌, inl, inr, Bool, true, false, List, [], length, subst, sym, refl, ap, ◌∙◌, arith, mod-lt, div-add-mod'}
use Rattle.std.specs.Prelude.{slice_index, slice_index_or, nat_lt, ◌&&◌, take, count_by}
use Rattle.std.proofs.lemmas.Bool.{cases_lt, cases_Bool, and_parts, and_from, and_left, ltb-true, lt-ltb, le-ltb}
use Rattle.std.proofs.lemmas.List.{take_all}
use Rattle.std.proofs.lemmas.List.Sums.{count_by_more_yes, count_by_more_no}
use Rattle.std.proofs.Math.Nat.{add-mul-mod_self_right, mod-eq_of_lt, add-mul-div_right, div-eq_of_lt}
use Rattle.sd_base.specs.Schedules.{Schedule, count_of, start_of}
use Rattle.single_rate.proofs.TalliesGiveWeights.{tally, tally-zero, tally-suc, unit_of}

-- the sum of a function over the first numbers
pub sum_over : (ℕ → ℕ) → ℕ → ℕ
sum_over f zero = 0
sum_over f (suc k) = sum_over f k + f k

pub sum_over-zero : (f : ℕ → ℕ) → sum_over f 0 ≡ 0
unfolding sum_over
sum_over-zero f = refl

pub sum_over-suc : (f : ℕ → ℕ) (k : ℕ) → sum_over f (suc k) ≡ sum_over f k + f k
unfolding sum_over
sum_over-suc f k = refl

pub sum_over-same : (f g : ℕ → ℕ) (n : ℕ) → ((k : ℕ) → k < n → f k ≡ g k) → sum_over f n ≡ sum_over g n
sum_over-same f g zero same = rw (sum_over-zero, sum_over-zero) refl
sum_over-same f g (suc n) same = rw (sum_over-suc, sum_over-suc) (omega (arith, sum_over-same f g n (λ k h. same k (omega arith)), same n (omega arith)))

pub tally-same : (p q : ℕ → Bool) (n : ℕ) → ((k : ℕ) → k < n → p k ≡ q k) → tally p n ≡ tally q n
tally-same p q zero same = rw (tally-zero, tally-zero) refl
tally-same p q (suc n) same = rw (tally-suc, tally-suc) (omega (arith, tally-same p q n (λ k h. same k (omega arith)), ap unit_of (same n (omega arith))))

-- one more number in each row
sum-more : (b : ℕ → ℕ → Bool) (q n : ℕ) → sum_over (λ k. tally (b k) (suc q)) n ≡ sum_over (λ k. tally (b k) q) n + tally (λ k. b k q) n
sum-more b q zero = rw (sum_over-zero, sum_over-zero, tally-zero) refl
sum-more b q (suc n) =
    let more : tally (b n) (suc q) ≡ tally (b n) q + unit_of (b n q) = tally-suc (b n) q in
    rw (sum_over-suc, sum_over-suc, tally-suc (λ k. b k q) n) (omega (arith, sum-more b q n))

sum-none : (b : ℕ → ℕ → Bool) (n : ℕ) → sum_over (λ k. tally (b k) 0) n ≡ 0
sum-none b zero = sum_over-zero (λ k. tally (b k) 0)
sum-none b (suc n) = rw sum_over-suc (omega (arith, sum-none b n, tally-zero (b n)))

-- numbers by rest and quotient
abbrev pub by_rest : (ℕ → ℕ → Bool) → ℕ → ℕ → Bool
by_rest b r n = b (n % r) (n / r)

pub rest-at : (b : ℕ → ℕ → Bool) (r k q : ℕ) → k < r → by_rest b r (k + q * r) ≡ b k q
rest-at b r k q below =
    let rest : (k + q * r) % r ≡ k = add-mul-mod_self_right k q r ∙ mod-eq_of_lt below in
    let quotient : (k + q * r) / r ≡ q = (let z : k / r ≡ 0 = div-eq_of_lt below in add-mul-div_right k q (omega arith) ∙ omega arith) in
    rw (rest, quotient) refl

tally-row : (b : ℕ → ℕ → Bool) (r q j : ℕ) → j ≤ r → tally (by_rest b r) (q * r + j) ≡ tally (by_rest b r) (q * r) + tally (λ k. b k q) j
tally-row b r q zero within = let e : q * r + 0 ≡ q * r = omega arith in rw (e, tally-zero) (omega arith)
tally-row b r q (suc j) within =
    let e : q * r + suc j ≡ suc (q * r + j) = omega arith in
    let turn : q * r + j ≡ j + q * r = omega arith in
    let same : by_rest b r (q * r + j) ≡ b j q = ap (by_rest b r) turn ∙ rest-at b r j q (omega arith) in
    rw (e, tally-suc, tally-suc) (omega (arith, tally-row b r q j (omega arith), ap unit_of same))

-- row by row
pub tally-rows : (b : ℕ → ℕ → Bool) (r q : ℕ) → tally (by_rest b r) (q * r) ≡ sum_over (λ k. tally (b k) q) r
tally-rows b r zero = let e : 0 * r ≡ 0 = omega arith in rw (e, tally-zero) (sym (sum-none b r))
tally-rows b r (suc q) =
    let e : suc q * r ≡ q * r + r = omega arith in
    rw e (omega (arith, tally-row b r q r (omega arith), tally-rows b r q, sum-more b q r))

-- a place of a list at which a number passes
abbrev pub is_at : (ℕ → Bool) → List ℕ → ℕ → Bool
is_at g xs m = nat_lt m (length xs) && g (slice_index xs m)

count-take : (g : ℕ → Bool) (xs : List ℕ) (n : ℕ) → n ≤ length xs → tally (is_at g xs) n ≡ count_by g (take n xs)
count-take g xs zero within = tally-zero (is_at g xs)
count-take g xs (suc n) within = at (count-take g xs n (omega arith)) (cases_Bool (g (slice_index xs n)))
  where
    there : nat_lt n (length xs) ≡ true
    there = lt-ltb n (length xs) (omega arith)

    e : suc n ≡ n + 1
    e = omega arith

    at : tally (is_at g xs) n ≡ count_by g (take n xs) → (g (slice_index xs n) ≡ true) ⊎ (g (slice_index xs n) ≡ false) → tally (is_at g xs) (suc n) ≡ count_by g (take (suc n) xs)
    at rest (inl good) =
        let passes : is_at g xs n ≡ true = and_from _ _ there good in
        rw (tally-suc, passes) (rw e (omega (arith, count_by_more_yes g xs n 0 (omega arith) good)))
    at rest (inr bad) =
        let fails : is_at g xs n ≡ false = Rattle.std.proofs.lemmas.Bool.and_right _ _ bad in
        rw (tally-suc, fails) (rw e (omega (arith, count_by_more_no g xs n 0 (omega arith) bad)))

count-past : (g : ℕ → Bool) (xs : List ℕ) (d : ℕ) → tally (is_at g xs) (d + length xs) ≡ count_by g xs
count-past g xs zero =
    let e : 0 + length xs ≡ length xs = omega arith in
    rw e (count-take g xs (length xs) (omega arith) ∙ ap (count_by g) (take_all (length xs) xs (omega arith)))
count-past g xs (suc d) =
    let e : suc d + length xs ≡ suc (d + length xs) = omega arith in
    let fails : is_at g xs (d + length xs) ≡ false = and_left _ _ (le-ltb (d + length xs) (length xs) (omega arith)) in
    rw (e, tally-suc, fails) (omega (arith, count-past g xs d))

-- the places up to any past the end are all
pub count-places : (g : ℕ → Bool) (xs : List ℕ) (n : ℕ) → length xs ≤ n → tally (is_at g xs) n ≡ count_by g xs
count-places g xs n past =
    let e : (n - length xs) + length xs ≡ n = omega arith in
    subst (λ (k : ℕ). tally (is_at g xs) k ≡ count_by g xs) e (count-past g xs (n - length xs))

-- firing m of copy k is in the schedule, and passes by its number and start; copy 0 has the number f, and a round r firings
abbrev pub is_copy_in : Schedule → ℕ → ℕ → (ℕ → ℕ → Bool) → ℕ → ℕ → Bool
is_copy_in u f r g k m = nat_lt m (count_of u (f + k)) && g (k + m * r) (start_of u (f + k) m)

-- firing n of the actor
abbrev pub is_in : Schedule → ℕ → ℕ → (ℕ → ℕ → Bool) → ℕ → Bool
is_in u f r g n = by_rest (is_copy_in u f r g) r n

module _ (u : Schedule) (f r : ℕ) (some : 1 ≤ r) (g : ℕ → ℕ → Bool) where
  -- what is known of a firing that is in the schedule and passes
  pub record IsIn (n : ℕ) : Type 0 where
    pub copy : n % r < r
    pub is : n % r + n / r * r ≡ n
    pub there : n / r < count_of u (f + n % r)
    pub passes : g n (start_of u (f + n % r) (n / r)) ≡ true

  pub split-of : (n : ℕ) → n % r + n / r * r ≡ n
  split-of n = omega (arith, div-add-mod' n r)

  pub in-tells : (n : ℕ) → is_in u f r g n ≡ true → IsIn n
  in-tells n holds =
      let parts = and_parts _ _ holds in
      record {
        copy = mod-lt n some;
        is = split-of n;
        there = ltb-true _ _ parts.0;
        passes = (let p : g (n % r + n / r * r) (start_of u (f + n % r) (n / r)) ≡ true = parts.1 in subst (λ (y : ℕ). g y (start_of u (f + n % r) (n / r)) ≡ true) (split-of n) p);
      }

  pub in-from : (n : ℕ) → n / r < count_of u (f + n % r) → g n (start_of u (f + n % r) (n / r)) ≡ true → is_in u f r g n ≡ true
  in-from n there passes =
      and_from _ _ (lt-ltb _ _ there) (subst (λ (y : ℕ). g y (start_of u (f + n % r) (n / r)) ≡ true) (sym (split-of n)) passes)

-- counted by copies, where passing goes by the start alone
pub count-copies : (u : Schedule) (f r q : ℕ) (g : ℕ → Bool) → ((k : ℕ) → k < r → count_of u (f + k) ≤ q) →
    tally (is_in u f r (λ n x. g x)) (q * r) ≡ sum_over (λ k. count_by g (slice_index_or u (f + k) [])) r
count-copies u f r q g within =
    tally-rows (is_copy_in u f r (λ n x. g x)) r q
    ∙ sum_over-same _ _ r (λ k below. count-places g (slice_index_or u (f + k) []) q (within k below))
