-- The rates of order channels, summed over firings, count the entries of an order.
use Rattle.std.proofs.Common.{◌≡◌, ℕ, zero, suc, ◌+◌, ◌-◌, ◌*◌, ◌%◌, ◌/◌, ◌≤◌, ◌<◌, Bool, true, false, List, [], ◌∷◌, length, ⊎_elim, subst, sym, refl, ap, ◌∙◌, arith, eq-eqb, eqb-true, div-add-mod'}
use Rattle.std.proofs.Math.Nat.{add-mul-mod_self_right, mod-eq_of_lt, mod-lt}
use Rattle.std.specs.Prelude.{pred, slice_index, ◌==◌, ◌&&◌, if◌then◌else◌}
use Rattle.std.proofs.lemmas.Bool.{cases_lt}
use Rattle.sd_base.specs.Net.{phase_entry, total}
use Rattle.sd_base.proofs.SumsRepeatByTurns.{total-zero, total-suc}
use Rattle.ordered.specs.Orders.{entry_at, one_if, how_many, fired}
use Rattle.ordered.specs.OrderedNets.{picked, before, leads, led, order_channel}
use Rattle.ordered.proofs.CountsRepeatByTurns.{many-zero, many-suc, many-hit, many-miss, many-le, many-same, many-shift, many-turns, many-split}

pub entry-turns : (order : List ℕ) (k q : ℕ) → entry_at order (k + q * length order) ≡ entry_at order k
entry-turns order k q = ap (slice_index order) (add-mul-mod_self_right k q (length order))

-- the actor of an entry
abbrev pub is_of : List ℕ → ℕ → ℕ → Bool
is_of order a k = entry_at order k == a

pub of-turns : (order : List ℕ) (a k q : ℕ) → is_of order a (k + q * length order) ≡ is_of order a k
of-turns order a k q = ap (λ (x : ℕ). x == a) (entry-turns order k q)

pub of-here : (order : List ℕ) (a m : ℕ) → entry_at order m ≡ a → is_of order a m ≡ true
of-here order a m e = eq-eqb (entry_at order m) a e

pub fired-here : (order : List ℕ) (a m : ℕ) → entry_at order m ≡ a → fired order a (suc m) ≡ fired order a m + 1
fired-here order a m e = many-hit (is_of order a) m (of-here order a m e)

-- the rates of an actor of an order at a channel of a test, by firing of a round
abbrev pub rates_by : List ℕ → ℕ → (ℕ → Bool) → List ℕ
rates_by order a test = picked order a test 0 (length order)

module _ (order : List ℕ) (a : ℕ) (test : ℕ → Bool) where
  pub picked-many : (m n : ℕ) → length (picked order a test m n) + fired order a m ≡ fired order a (m + n)
  picked-many m zero = let e : m + 0 ≡ m = omega arith in rw e (omega arith)
  picked-many m (suc n) = step (is_of order a m) refl (picked-many (suc m) n)
    where
      e : m + suc n ≡ suc m + n
      e = omega arith

      step : (b : Bool) → is_of order a m ≡ b → length (picked order a test (suc m) n) + fired order a (suc m) ≡ fired order a (suc m + n) →
          length (if b then one_if (test m) ∷ picked order a test (suc m) n else picked order a test (suc m) n) + fired order a m ≡ fired order a (m + suc n)
      step true is rest = rw e (omega (arith, rest, many-hit (is_of order a) m is))
      step false is rest = rw e (omega (arith, rest, many-miss (is_of order a) m is))

  -- the number of an entry's firing has its test
  pub picked-at : (m n r f : ℕ) → r < n → entry_at order (m + r) ≡ a → fired order a (m + r) ≡ fired order a m + f →
      slice_index (picked order a test m n) f ≡ one_if (test (m + r))
  picked-at m zero r f below here number = absurd (omega arith)
  picked-at m (suc n) r f below here number = step r f (is_of order a m) refl below here number (picked-at (suc m) n)
    where
      step : (r f : ℕ) (b : Bool) → is_of order a m ≡ b → r < suc n → entry_at order (m + r) ≡ a → fired order a (m + r) ≡ fired order a m + f →
          ((r f : ℕ) → r < n → entry_at order (suc m + r) ≡ a → fired order a (suc m + r) ≡ fired order a (suc m) + f → slice_index (picked order a test (suc m) n) f ≡ one_if (test (suc m + r))) →
          slice_index (if b then one_if (test m) ∷ picked order a test (suc m) n else picked order a test (suc m) n) f ≡ one_if (test (m + r))
      step zero f true is below here number rest =
          let e : m + 0 ≡ m = omega arith in
          let same : fired order a (m + 0) ≡ fired order a m = ap (fired order a) e in
          let none : f ≡ 0 = omega arith in
          rw (none, e) refl
      step zero f false is below here number rest =
          let e : m + 0 ≡ m = omega arith in
          let hit : is_of order a m ≡ true = of-here order a m (rw e at here) in
          absurd (let no : true ≡ false = sym hit ∙ is in cc)
      step (suc r) zero true is below here number rest =
          let e : m + suc r ≡ suc m + r = omega arith in
          let same : fired order a (m + suc r) ≡ fired order a (suc m + r) = ap (fired order a) e in
          absurd (let le = many-le (is_of order a) (suc m) (suc m + r) (omega arith) in let hit = many-hit (is_of order a) m is in omega arith)
      step (suc r) (suc f) true is below here number rest =
          let e : m + suc r ≡ suc m + r = omega arith in
          let same : fired order a (m + suc r) ≡ fired order a (suc m + r) = ap (fired order a) e in
          let hit = many-hit (is_of order a) m is in
          rw e (rest r f (omega arith) (rw e at here) (omega arith))
      step (suc r) f false is below here number rest =
          let e : m + suc r ≡ suc m + r = omega arith in
          let same : fired order a (m + suc r) ≡ fired order a (suc m + r) = ap (fired order a) e in
          let miss = many-miss (is_of order a) m is in
          rw e (rest r f (omega arith) (rw e at here) (omega arith))

  module _ (some : 1 ≤ length order) (turns : (k q : ℕ) → test (k + q * length order) ≡ test k) where
    pub rates-many : length (rates_by order a test) ≡ fired order a (length order)
    rates-many =
        let e : 0 + length order ≡ length order = omega arith in
        let many = picked-many 0 (length order) in
        let none : fired order a 0 ≡ 0 = many-zero (is_of order a) in
        let same : fired order a (0 + length order) ≡ fired order a (length order) = ap (fired order a) e in
        omega arith

    -- the rate of the firing of entry m
    pub rate-at : (m : ℕ) → entry_at order m ≡ a → phase_entry (rates_by order a test) (fired order a m) ≡ one_if (test m)
    rate-at m here = ap (slice_index (rates_by order a test)) phase ∙ (first ∙ ap one_if same)
      where
        r : ℕ
        r = m % length order

        below : m % length order < length order
        below = mod-lt m (omega arith)

        whole : m % length order + m / length order * length order ≡ m
        whole = omega (arith, div-add-mod' m (length order))

        here' : entry_at order (m % length order) ≡ a
        here' = sym (entry-turns order (m % length order) (m / length order)) ∙ (ap (entry_at order) whole ∙ here)

        same : test (m % length order) ≡ test m
        same = sym (turns (m % length order) (m / length order)) ∙ ap test whole

        split : fired order a m ≡ fired order a (m % length order) + (m / length order) * fired order a (length order)
        split = many-split (is_of order a) (length order) (of-turns order a) m

        small : fired order a (m % length order) < fired order a (length order)
        small = let hit = fired-here order a (m % length order) here' in let le = many-le (is_of order a) (suc (m % length order)) (length order) (omega arith) in omega arith

        phase : fired order a m % length (rates_by order a test) ≡ fired order a (m % length order)
        phase = rw (split, rates-many, add-mul-mod_self_right) (mod-eq_of_lt small)

        first : slice_index (rates_by order a test) (fired order a (m % length order)) ≡ one_if (test (m % length order))
        first =
            let e : 0 + m % length order ≡ m % length order = omega arith in
            let none : fired order a 0 ≡ 0 = many-zero (is_of order a) in
            rw e at (picked-at 0 (length order) (m % length order) (fired order a (m % length order)) below (rw e here') (rw (e, none) (omega arith)))

    -- the rates of the firings of the first m entries
    pub rates-sum : (m : ℕ) → total (rates_by order a test) (fired order a m) ≡ how_many (λ k. is_of order a k && test k) m
    rates-sum zero = rw (many-zero, many-zero) (total-zero (rates_by order a test))
    rates-sum (suc m) = step (is_of order a m) refl (rates-sum m)
      where
        step : (b : Bool) → is_of order a m ≡ b → total (rates_by order a test) (fired order a m) ≡ how_many (λ k. is_of order a k && test k) m → total (rates_by order a test) (fired order a (suc m)) ≡ how_many (λ k. is_of order a k && test k) (suc m)
        step true is rest =
            let e : fired order a (suc m) ≡ suc (fired order a m) = omega (arith, many-hit (is_of order a) m is) in
            let rate : phase_entry (rates_by order a test) (fired order a m) ≡ one_if (test m) = rate-at m (eqb-true (entry_at order m) a is) in
            let more : how_many (λ k. is_of order a k && test k) (suc m) ≡ how_many (λ k. is_of order a k && test k) m + one_if (test m) = many-suc (λ k. is_of order a k && test k) m ∙ ap (λ (b : Bool). how_many (λ k. is_of order a k && test k) m + one_if (b && test m)) is in
            ap (total (rates_by order a test)) e ∙ (total-suc (rates_by order a test) (fired order a m) ∙ (omega (arith, rate, more, rest)))
        step false is rest =
            let e : fired order a (suc m) ≡ fired order a m = many-miss (is_of order a) m is in
            let more : how_many (λ k. is_of order a k && test k) (suc m) ≡ how_many (λ k. is_of order a k && test k) m = many-miss (λ k. is_of order a k && test k) m (ap (λ (b : Bool). b && test m) is) in
            ap (total (rates_by order a test)) e ∙ (rest ∙ sym more)
