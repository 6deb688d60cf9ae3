-- Of finitely many numbers of which some may lack one is the greatest, unless all lack.
use Rattle.std.proofs.Common.{◌≡◌, ℕ, zero, suc, ◌≤◌, ◌<◌, ◌⊎◌, inl, inr, ⊎_elim, subst, arith}
use Rattle.std.proofs.lemmas.Bool.{cases_lt}

-- the greatest number that one of the first n has
pub record Best (P : ℕ → ℕ → Type 0) (n : ℕ) : Type 0 where
  pub place : ℕ
  pub best : ℕ
  pub below : place < n
  pub is : P place best
  pub top : (k z : ℕ) → k < n → P k z → z ≤ best

-- each of the first n has a number, or none
abbrev pub AreDecided : (ℕ → ℕ → Type 0) → ℕ → Type 0
AreDecided P n = (k : ℕ) → k < n → ((z : ℕ) × P k z) ⊎ ((z : ℕ) → P k z → ⊥)

abbrev pub AreUnique : (ℕ → ℕ → Type 0) → Type 0
AreUnique P = (k y z : ℕ) → P k y → P k z → y ≡ z

pub best_of : (P : ℕ → ℕ → Type 0) → AreUnique P → (n : ℕ) → AreDecided P n → Best P n ⊎ ((k z : ℕ) → k < n → P k z → ⊥)
best_of P one zero all = inr (λ k z below is. (omega arith))
best_of P one (suc n) all = step (best_of P one n (λ k below. all k (omega arith))) (all n (omega arith))
  where
    -- a number of the last one, or of an earlier one
    part : (k z : ℕ) → k < suc n → P k z → (k < n) ⊎ P n z
    part k z below is = ⊎_elim (λ (less : k < n). inl less) (λ (last : n ≤ k). inr (subst (λ (m : ℕ). P m z) (let e : k ≡ n = omega arith in e) is)) (cases_lt k n)

    alone : (z : ℕ) → P n z → ((k y : ℕ) → k < n → P k y → ⊥) → Best P (suc n)
    alone z is none = record {
      place = n;
      best = z;
      below = omega arith;
      is = is;
      top = λ k y below has. ⊎_elim (λ (less : k < n). absurd (none k y less has)) (λ (here : P n y). (let e : y ≡ z = one n y z here is in omega arith)) (part k y below has);
    }

    both : (z : ℕ) → P n z → Best P n → Best P (suc n)
    both z is old = ⊎_elim
        (λ (more : old.best < z). record {
          place = n;
          best = z;
          below = omega arith;
          is = is;
          top = λ k y below has. ⊎_elim (λ (less : k < n). (let low : y ≤ old.best = old.top k y less has in omega arith)) (λ (here : P n y). (let e : y ≡ z = one n y z here is in omega arith)) (part k y below has);
        })
        (λ (less_or : z ≤ old.best). record {
          place = old.place;
          best = old.best;
          below = (let b : old.place < n = old.below in omega arith);
          is = old.is;
          top = λ k y below has. ⊎_elim (λ (less : k < n). old.top k y less has) (λ (here : P n y). (let e : y ≡ z = one n y z here is in omega arith)) (part k y below has);
        })
        (cases_lt old.best z)

    kept : ((z : ℕ) → P n z → ⊥) → Best P n → Best P (suc n)
    kept none old = record {
      place = old.place;
      best = old.best;
      below = (let b : old.place < n = old.below in omega arith);
      is = old.is;
      top = λ k y below has. ⊎_elim (λ (less : k < n). old.top k y less has) (λ (here : P n y). absurd (none y here)) (part k y below has);
    }

    step : Best P n ⊎ ((k z : ℕ) → k < n → P k z → ⊥) → ((z : ℕ) × P n z) ⊎ ((z : ℕ) → P n z → ⊥) → Best P (suc n) ⊎ ((k z : ℕ) → k < suc n → P k z → ⊥)
    step (inl old) (inl (z, is)) = inl (both z is old)
    step (inl old) (inr none) = inl (kept none old)
    step (inr nothing) (inl (z, is)) = inl (alone z is nothing)
    step (inr nothing) (inr none) = inr (λ k y below has. ⊎_elim (λ (less : k < n). nothing k y less has) (λ (here : P n y). none y here) (part k y below has))
