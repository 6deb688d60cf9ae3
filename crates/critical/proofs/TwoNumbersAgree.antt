-- Of more numbers than they have values two agree.
use Rattle.std.proofs.Common.{◌≡◌, ℕ, zero, suc, ◌+◌, ◌-◌, ◌≤◌, ◌<◌, ◌⊎◌, inl, inr, ⊎_elim, sym, ap, ◌∙◌, arith}
use Rattle.std.proofs.lemmas.Bool.{cases_lt}

-- among the numbers f 0 to f n, those at p and p + d + 1 agree
pub record Agree (f : ℕ → ℕ) (n : ℕ) : Type 0 where
  pub p : ℕ
  pub d : ℕ
  pub within : p + suc d ≤ n
  pub same : f p ≡ f (p + suc d)

abbrev Found : (ℕ → ℕ) → ℕ → ℕ → Type 0
Found f y n = ((i : ℕ) × (i < n) × (f i ≡ y)) ⊎ ((i : ℕ) → i < n → f i ≡ y → ⊥)

find-step : (f : ℕ → ℕ) (y n : ℕ) → Found f y n → Found f y (suc n)
find-step f y n (inl (i, below, e)) = inl (i, omega arith, e)
find-step f y n (inr none) = ⊎_elim (λ (less : f n < y). inr (not-at (omega arith)))
    (λ (h : y ≤ f n). ⊎_elim (λ (more : y < f n). inr (not-at (omega arith))) (λ (le : f n ≤ y). inl (n, omega arith, omega arith)) (cases_lt y (f n)))
    (cases_lt (f n) y)
  where
    not-at : (f n ≡ y → ⊥) → (i : ℕ) → i < suc n → f i ≡ y → ⊥
    not-at never i below e = ⊎_elim (λ (old : i < n). none i old e) (λ (late : n ≤ i). let same : n ≡ i = omega arith in never (ap f same ∙ e)) (cases_lt i n)

find : (f : ℕ → ℕ) (y n : ℕ) → Found f y n
find f y zero = inr (λ i below e. absurd (omega arith))
find f y (suc n) = find-step f y n (find f y n)

-- the value n replaced by z
abbrev other : (x n z : ℕ) → (x < n) ⊎ (n ≤ x) → ℕ
other x n z (inl less) = x
other x n z (inr is) = z

other-small : (x n z : ℕ) (w : (x < n) ⊎ (n ≤ x)) → x < suc n → z < suc n → (x ≡ z → ⊥) → other x n z w < n
other-small x n z (inl less) small also apart = less
other-small x n z (inr is) small also apart = ⊎_elim (λ (h : z < n). h) (λ (h : n ≤ z). absurd (apart (omega arith))) (cases_lt z n)

other-same : (x y n z : ℕ) (w : (x < n) ⊎ (n ≤ x)) (v : (y < n) ⊎ (n ≤ y)) → x < suc n → y < suc n → (x ≡ z → ⊥) → (y ≡ z → ⊥) → other x n z w ≡ other y n z v → x ≡ y
other-same x y n z (inl a) (inl b) small also apart distinct e = e
other-same x y n z (inl a) (inr b) small also apart distinct e = absurd (apart e)
other-same x y n z (inr a) (inl b) small also apart distinct e = absurd (distinct (sym e))
other-same x y n z (inr a) (inr b) small also apart distinct e = omega arith

agree-step : (n : ℕ) (f : ℕ → ℕ) → ((i : ℕ) → i < suc (suc n) → f i < suc n) → ((g : ℕ → ℕ) → ((i : ℕ) → i < suc n → g i < n) → Agree g n) → Agree f (suc n)
agree-step n f small lower = each (find f (f (suc n)) (suc n))
  where
    each : Found f (f (suc n)) (suc n) → Agree f (suc n)
    each (inl (i, below, e)) = let last : suc n ≡ i + suc (n - i) = omega arith in record { p = i; d = n - i; within = omega arith; same = e ∙ ap f last }
    each (inr none) =
        let found = lower (λ i. other (f i) n (f (suc n)) (cases_lt (f i) n)) (λ i below. other-small (f i) n (f (suc n)) (cases_lt (f i) n) (small i (omega arith)) (small (suc n) (omega arith)) (none i below)) in
        record {
          p = found.p;
          d = found.d;
          within = omega (arith, found.within);
          same = other-same (f found.p) (f (found.p + suc found.d)) n (f (suc n)) (cases_lt (f found.p) n) (cases_lt (f (found.p + suc found.d)) n)
              (small found.p (omega (arith, found.within))) (small (found.p + suc found.d) (omega (arith, found.within)))
              (none found.p (omega (arith, found.within))) (none (found.p + suc found.d) (omega (arith, found.within))) found.same;
        }

pub agree : (n : ℕ) (f : ℕ → ℕ) → ((i : ℕ) → i < suc n → f i < n) → Agree f n
agree zero f small = absurd (let none : f 0 < 0 = small 0 (omega arith) in omega arith)
agree (suc n) f small = agree-step n f small (agree n)
