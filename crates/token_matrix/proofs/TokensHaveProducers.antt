-- Each token is an initial one, or one firing puts it.
use Rattle.std.proofs.Common.{◌≡◌, ℕ, zero, suc, ◌+◌, ◌≤◌, ◌<◌, ◌⊎◌, subst, inl, inr, ⊎_elim, arith}
use Rattle.std.proofs.lemmas.Bool.{cases_lt}
use Rattle.sd_base.specs.Net.{Net, channel_at, total}
use Rattle.sd_base.proofs.SumsRepeatByTurns.{total-le, total-zero}
use Rattle.token_matrix.specs.Stamps.{IsPutBy}

-- a token that the first v firings of each actor have put is put by one of them
pub put_earlier : (net : Net) (v : ℕ → ℕ) (i m k : ℕ) → m < (channel_at net i).tokens + total (channel_at net i).made (v (channel_at net i).source) → IsPutBy (channel_at net i) m k → k < v (channel_at net i).source
put_earlier net v i m k made put = ⊎_elim (λ (h : k < v (channel_at net i).source). h)
    (λ (h : v (channel_at net i).source ≤ k). absurd (let more : total (channel_at net i).made (v (channel_at net i).source) ≤ total (channel_at net i).made k = total-le (channel_at net i).made h in
    let low : (channel_at net i).tokens + total (channel_at net i).made k ≤ m = put.0 in let no : ⊥ = omega arith in no)) (cases_lt k (v (channel_at net i).source))

-- one firing puts a token
pub one_producer : (net : Net) (i m k l : ℕ) → IsPutBy (channel_at net i) m k → IsPutBy (channel_at net i) m l → k ≡ l
one_producer net i m k l (low, high) (low', high') = ⊎_elim
    (λ (h : k < l). absurd (let up : total (channel_at net i).made (k + 1) ≤ total (channel_at net i).made l = total-le (channel_at net i).made (let g : k + 1 ≤ l = omega arith in g) in let no : ⊥ = omega arith in no))
    (λ (h : l ≤ k). ⊎_elim (λ (g : l < k). absurd (let up : total (channel_at net i).made (l + 1) ≤ total (channel_at net i).made k = total-le (channel_at net i).made (let f : l + 1 ≤ k = omega arith in f) in let no : ⊥ = omega arith in no))
    (λ (g : k ≤ l). let e : k ≡ l = omega arith in e) (cases_lt l k)) (cases_lt k l)

-- each token up to the n-th firing of the source is an initial one, or one of these firings puts it
pub producer : (net : Net) (i m n : ℕ) → (channel_at net i).tokens ≤ m → m < (channel_at net i).tokens + total (channel_at net i).made n → (k : ℕ) × (k < n) × IsPutBy (channel_at net i) m k
producer net i m zero low high = absurd (let none : total (channel_at net i).made 0 ≡ 0 = total-zero (channel_at net i).made in let no : ⊥ = omega arith in no)
producer net i m (suc n) low high = step (producer net i m n low) (cases_lt m ((channel_at net i).tokens + total (channel_at net i).made n))
  where
    step : (m < (channel_at net i).tokens + total (channel_at net i).made n → (k : ℕ) × (k < n) × IsPutBy (channel_at net i) m k)
        → (m < (channel_at net i).tokens + total (channel_at net i).made n) ⊎ ((channel_at net i).tokens + total (channel_at net i).made n ≤ m) → (k : ℕ) × (k < suc n) × IsPutBy (channel_at net i) m k
    step before (inl h) = let k = before h in (k.0, (let g : k.0 < suc n = omega (arith, k.1) in g), k.2)
    step before (inr h) = (n, omega arith, (h, (let e : suc n ≡ n + 1 = omega arith in subst (λ (x : ℕ). m < (channel_at net i).tokens + total (channel_at net i).made x) e high)))
