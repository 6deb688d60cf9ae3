-- A bound on the number of each firing that starts before a moment bounds how many do.
use Rattle.std.proofs.Common.{◌≡◌, ℕ, zero, suc, ◌+◌, ◌*◌, ◌≤◌, ◌<◌, [], ⊎_elim, refl, arith}
use Rattle.std.specs.Prelude.{slice_index_or, count_by, nat_lt}
use Rattle.std.proofs.lemmas.Bool.{cases_lt}
use Rattle.sd_base.specs.Net.{Net}
use Rattle.sd_base.specs.Schedules.{Schedule, count_of, start_of, Admissible}
use Rattle.sd_base.proofs.FiringsKeepOrder.{starts-le}
use Rattle.sd_base.proofs.LoopRates.{count-bound}

-- firing n of a is in s and starts before t
pub record Started (s : Schedule) (t a n : ℕ) : Type 0 where
  pub there : n < count_of s a
  pub soon : start_of s a n < t

module _ (net : Net) (s : Schedule) (good : Admissible net s) where
  pub started-before : (t a m n : ℕ) → m ≤ n → Started s t a n → Started s t a m
  started-before t a m n le started =
      let rise : start_of s a m ≤ start_of s a n = starts-le net s good a m n le started.there in
      let soon : start_of s a n < t = started.soon in
      record { there = omega (arith, started.there); soon = omega arith }

  -- as many firings start before t as the count says
  last-started : (t a n : ℕ) → n < count_by (λ x. nat_lt x t) (slice_index_or s a []) → Started s t a n
  last-started t a n more = ⊎_elim
      (λ (there : n < count_of s a). ⊎_elim (λ (soon : start_of s a n < t). record { there = there; soon = soon }) (λ (late : t ≤ start_of s a n). none (λ k below soon.
      ⊎_elim (λ (h : k < n). h) (λ (h : n ≤ k). absurd (let rise : start_of s a n ≤ start_of s a k = starts-le net s good a n k h below in omega arith)) (cases_lt k n)))
      (cases_lt (start_of s a n) t))
      (λ (past : count_of s a ≤ n). none (λ k below soon. omega arith))
      (cases_lt n (count_of s a))
    where
      none : ((k : ℕ) → k < count_of s a → start_of s a k < t → k < n) → Started s t a n
      none places = absurd (let few : count_by (λ x. nat_lt x t) (slice_index_or s a []) ≤ n = count-bound t (slice_index_or s a []) n places in omega arith)

  -- a bound on each firing that starts before t is one on their number
  pub started-bound : (t a w most : ℕ) → ((n : ℕ) → Started s t a n → w * (n + 1) ≤ most) → w * count_by (λ x. nat_lt x t) (slice_index_or s a []) ≤ most
  started-bound t a w most each = at (count_by (λ x. nat_lt x t) (slice_index_or s a [])) refl
    where
      at : (n : ℕ) → count_by (λ x. nat_lt x t) (slice_index_or s a []) ≡ n → w * count_by (λ x. nat_lt x t) (slice_index_or s a []) ≤ most
      at zero e = rw e (omega arith)
      at (suc n) e = rw e (let bound : w * (n + 1) ≤ most = each n (last-started t a n (omega arith)) in omega arith)

  -- so is one on the number of all firings, where all start before t
  pub count-bounded : (t a w most : ℕ) → ((k : ℕ) → k < count_of s a → start_of s a k < t) → ((n : ℕ) → Started s t a n → w * (n + 1) ≤ most) → w * count_of s a ≤ most
  count-bounded t a w most all each = at (count_of s a) refl
    where
      at : (n : ℕ) → count_of s a ≡ n → w * count_of s a ≤ most
      at zero e = rw e (omega arith)
      at (suc n) e = rw e (let bound : w * (n + 1) ≤ most = each n (record { there = omega arith; soon = all n (omega arith) }) in omega arith)
