-- Counts along an order that is gone through again repeat by whole turns.
use Rattle.std.proofs.Common.{◌≡◌, ℕ, zero, suc, ◌+◌, ◌-◌, ◌*◌, ◌%◌, ◌/◌, ◌≤◌, ◌<◌, Bool, true, false, ⊎_elim, subst, sym, refl, ap, ◌∙◌, arith, div-add-mod'}
use Rattle.std.proofs.lemmas.Bool.{cases_lt}
use Rattle.ordered.specs.Orders.{one_if, how_many}

pub many-zero : (t : ℕ → Bool) → how_many t 0 ≡ 0
unfolding how_many
many-zero t = refl

pub many-suc : (t : ℕ → Bool) (m : ℕ) → how_many t (suc m) ≡ how_many t m + one_if (t m)
unfolding how_many
many-suc t m = refl

pub many-hit : (t : ℕ → Bool) (m : ℕ) → t m ≡ true → how_many t (suc m) ≡ how_many t m + 1
many-hit t m hit = many-suc t m ∙ ap (λ (b : Bool). how_many t m + one_if b) hit

pub many-miss : (t : ℕ → Bool) (m : ℕ) → t m ≡ false → how_many t (suc m) ≡ how_many t m
many-miss t m miss = many-suc t m ∙ (ap (λ (b : Bool). how_many t m + one_if b) miss ∙ omega arith)

many-rises : (t : ℕ → Bool) (m d : ℕ) → how_many t m ≤ how_many t (d + m)
many-rises t m zero = let e : 0 + m ≡ m = omega arith in rw e (omega arith)
many-rises t m (suc d) = let e : suc d + m ≡ suc (d + m) = omega arith in rw e (omega (arith, many-rises t m d, many-suc t (d + m)))

pub many-le : (t : ℕ → Bool) (m n : ℕ) → m ≤ n → how_many t m ≤ how_many t n
many-le t m n h = let e : (n - m) + m ≡ n = omega arith in subst (λ (k : ℕ). how_many t m ≤ how_many t k) e (many-rises t m (n - m))

-- what is less often found before m than before n stands before
pub many-before : (t : ℕ → Bool) (m n : ℕ) → how_many t m < how_many t n → m < n
many-before t m n less = ⊎_elim (λ (h : m < n). h) (λ (h : n ≤ m). let le = many-le t n m h in absurd (omega arith)) (cases_lt m n)

-- tests that agree find as many
pub many-same : (t u : ℕ → Bool) → ((k : ℕ) → t k ≡ u k) → (m : ℕ) → how_many t m ≡ how_many u m
many-same t u same zero = many-zero t ∙ sym (many-zero u)
many-same t u same (suc m) = many-suc t m ∙ (ap (λ (n : ℕ). n + one_if (t m)) (many-same t u same m) ∙ (ap (λ (b : Bool). how_many u m + one_if b) (same m) ∙ sym (many-suc u m)))

-- the k-th number that passes
pub record Found (t : ℕ → Bool) (k m : ℕ) : Type 0 where
  pub place : ℕ
  pub below : place < m
  pub here : t place ≡ true
  pub number : how_many t place ≡ k

pub found : (t : ℕ → Bool) (k m : ℕ) → k < how_many t m → Found t k m
found t k zero less = absurd (let none = many-zero t in omega arith)
found t k (suc m) less = ⊎_elim (λ (h : k < how_many t m). later (found t k m h)) (λ (h : how_many t m ≤ k). last (t m) refl h) (cases_lt k (how_many t m))
  where
    later : Found t k m → Found t k (suc m)
    later f = record { place = f.place; below = omega (arith, f.below); here = f.here; number = f.number }

    last : (b : Bool) → t m ≡ b → how_many t m ≤ k → Found t k (suc m)
    last true is h = record { place = m; below = omega arith; here = is; number = omega (arith, less, many-hit t m is) }
    last false is h = absurd (let same = many-miss t m is in omega arith)

-- ---- tests that repeat

module _ (t : ℕ → Bool) (n : ℕ) (turns : (k q : ℕ) → t (k + q * n) ≡ t k) where
  pub many-shift : (k q : ℕ) → how_many t (k + q * n) ≡ how_many t k + how_many t (q * n)
  many-shift zero q = let e : 0 + q * n ≡ q * n = omega arith in rw (e, many-zero) (omega arith)
  many-shift (suc k) q =
      let e : suc k + q * n ≡ suc (k + q * n) = omega arith in
      rw (e, many-suc, many-suc, turns) (omega (arith, many-shift k q))

  pub many-turns : (q : ℕ) → how_many t (q * n) ≡ q * how_many t n
  many-turns zero = let e : 0 * n ≡ 0 = omega arith in rw (e, many-zero) (omega arith)
  many-turns (suc q) =
      let e : suc q * n ≡ n + q * n = omega arith in
      rw e (omega (arith, many-shift n q, many-turns q))

  pub many-split : (m : ℕ) → how_many t m ≡ how_many t (m % n) + (m / n) * how_many t n
  many-split m =
      let e : m % n + m / n * n ≡ m = omega (arith, div-add-mod' m n) in
      subst (λ (k : ℕ). how_many t k ≡ how_many t (m % n) + (m / n) * how_many t n) e
      (omega (arith, many-shift (m % n) (m / n), many-turns (m / n)))

  -- where some number passes, so does a k-th one
  pub found-on : (p k : ℕ) → p < n → t p ≡ true → Found t k (suc k * n)
  found-on p k below hit = found t k (suc k * n) more
    where
      one : 1 ≤ how_many t n
      one = omega (arith, many-hit t p hit, many-le t (suc p) n (omega arith))

      more : k < how_many t (suc k * n)
      more = let le : suc k * 1 ≤ suc k * how_many t n = Rattle.std.proofs.Common.mul-le-mul_left (suc k) one in omega (arith, many-turns (suc k))
