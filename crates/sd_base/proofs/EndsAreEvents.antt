-- A moment at which a firing ends is an event, and the test of events tells of such moments.
use Rattle.std.proofs.Common.{◌≡◌, ℕ, zero, suc, ◌<◌, ◌⊎◌, true, length, inl, inr, ⊎_elim, subst, refl, arith, eq-eqb, eqb-true}
use Rattle.std.specs.Prelude.{◌==◌}
use Rattle.std.proofs.lemmas.Bool.{cases_eq, or_cases, or_left, or_right, false≢true}
use Rattle.sd_base.specs.Net.{Net}
use Rattle.sd_base.specs.Schedules.{Schedule, count_of, end_of}
use Rattle.sd_base.specs.SelfTimed.{earliest, IsEvent, ends_among, ends_at, is_event}

ends_among-true : (net : Net) (t : ℕ) (s : Schedule) (a n k : ℕ) → k < n → end_of net s a k ≡ t → ends_among net t s a n ≡ true
ends_among-true net t s a zero k below at = absurd (omega arith)
ends_among-true net t s a (suc n) k below at = ⊎_elim
    (λ (same : k ≡ n). or_left _ _ (eq-eqb (end_of net s a n) t (rw (← same) at)))
    (λ (away : k ≡ n → ⊥). or_right _ _ (ends_among-true net t s a n k (omega arith) at))
    (cases_eq k n)

ends_at-true : (net : Net) (t : ℕ) (s : Schedule) (n a k : ℕ) → a < n → k < count_of s a → end_of net s a k ≡ t → ends_at net t s n ≡ true
ends_at-true net t s zero a k below there at = absurd (omega arith)
ends_at-true net t s (suc n) a k below there at = ⊎_elim
    (λ (same : a ≡ n).
    let here : ends_among net t s n (count_of s n) ≡ true = subst (λ (x : ℕ). ends_among net t s x (count_of s x) ≡ true) same (ends_among-true net t s a (count_of s a) k there at) in
    or_left (ends_among net t s n (count_of s n)) (ends_at net t s n) here)
    (λ (away : a ≡ n → ⊥). or_right _ _ (ends_at-true net t s n a k (omega arith) there at))
    (cases_eq a n)

-- a moment at which a firing of an actor ends is an event
pub is_event-end : (net : Net) (t a k : ℕ) → a < length net.times → k < count_of (earliest net t) a → end_of net (earliest net t) a k ≡ t → is_event net t ≡ true
is_event-end net t a k actor there at = or_right _ _ (ends_at-true net t (earliest net t) (length net.times) a k actor there at)

pub is_event-zero : (net : Net) → is_event net 0 ≡ true
is_event-zero net = refl

among-step : (net : Net) (t : ℕ) (s : Schedule) (a n : ℕ) → ((end_of net s a n == t) ≡ true) ⊎ (ends_among net t s a n ≡ true) → (ends_among net t s a n ≡ true → (k : ℕ) × (k < n) × (end_of net s a k ≡ t)) →
    (k : ℕ) × (k < suc n) × (end_of net s a k ≡ t)
among-step net t s a n (inl here) later = (n, omega arith, eqb-true (end_of net s a n) t here)
among-step net t s a n (inr there) later = let found = later there in (found.0, omega (arith, found.1), found.2)

ends_among-tells : (net : Net) (t : ℕ) (s : Schedule) (a n : ℕ) → ends_among net t s a n ≡ true → (k : ℕ) × (k < n) × (end_of net s a k ≡ t)
ends_among-tells net t s a zero holds = absurd (false≢true holds)
ends_among-tells net t s a (suc n) holds = among-step net t s a n (or_cases _ _ holds) (λ there. ends_among-tells net t s a n there)

at-step : (net : Net) (t : ℕ) (s : Schedule) (n : ℕ) → (ends_among net t s n (count_of s n) ≡ true) ⊎ (ends_at net t s n ≡ true) → (ends_at net t s n ≡ true → (a : ℕ) × (k : ℕ) × (k < count_of s a) × (end_of net s a k ≡ t)) →
    (a : ℕ) × (k : ℕ) × (k < count_of s a) × (end_of net s a k ≡ t)
at-step net t s n (inl here) later = let found = ends_among-tells net t s n (count_of s n) here in (n, found.0, found.1, found.2)
at-step net t s n (inr there) later = later there

ends_at-tells : (net : Net) (t : ℕ) (s : Schedule) (n : ℕ) → ends_at net t s n ≡ true → (a : ℕ) × (k : ℕ) × (k < count_of s a) × (end_of net s a k ≡ t)
ends_at-tells net t s zero holds = absurd (false≢true holds)
ends_at-tells net t s (suc n) holds = at-step net t s n (or_cases _ _ holds) (λ there. ends_at-tells net t s n there)

-- what the test says
pub event-tells : (net : Net) (t : ℕ) → is_event net t ≡ true → IsEvent net t
event-tells net t holds = ⊎_elim
    (λ (zero_at : (t == 0) ≡ true). inl (eqb-true t 0 zero_at))
    (λ (ends : ends_at net t (earliest net t) (length net.times) ≡ true). inr (ends_at-tells net t (earliest net t) (length net.times) ends))
    (or_cases _ _ holds)
