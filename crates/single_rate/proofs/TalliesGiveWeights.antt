-- How many of the first numbers pass a test, and what they weigh.
use Rattle.std.proofs.Common.{◌≡◌, ℕ, zero, suc, ◌+◌, ◌-◌, ◌≤◌, ◌<◌, ◌⊎◌, inl, inr, Bool, true, false, List, length, subst, sym, refl, ap, arith}
use Rattle.std.proofs.lemmas.Bool.{cases_lt}
use Rattle.sd_base.specs.Net.{phase_entry, total}
use Rattle.sd_base.proofs.SumsRepeatByTurns.{total-zero, total-suc}

abbrev pub unit_of : Bool → ℕ
unit_of true = 1
unit_of false = 0

abbrev pub weight_of : Bool → ℕ → ℕ
weight_of true n = n
weight_of false n = 0

-- how many of the first n numbers pass
pub tally : (ℕ → Bool) → ℕ → ℕ
tally p zero = 0
tally p (suc n) = tally p n + unit_of (p n)

-- the sum of the entries of those that pass
pub weigh : (ℕ → Bool) → List ℕ → ℕ → ℕ
weigh p xs zero = 0
weigh p xs (suc n) = weigh p xs n + weight_of (p n) (phase_entry xs n)

pub tally-zero : (p : ℕ → Bool) → tally p 0 ≡ 0
unfolding tally
tally-zero p = refl

pub tally-suc : (p : ℕ → Bool) (n : ℕ) → tally p (suc n) ≡ tally p n + unit_of (p n)
unfolding tally
tally-suc p n = refl

pub weigh-zero : (p : ℕ → Bool) (xs : List ℕ) → weigh p xs 0 ≡ 0
unfolding weigh
weigh-zero p xs = refl

pub weigh-suc : (p : ℕ → Bool) (xs : List ℕ) (n : ℕ) → weigh p xs (suc n) ≡ weigh p xs n + weight_of (p n) (phase_entry xs n)
unfolding weigh
weigh-suc p xs n = refl

unit-small : (b : Bool) → unit_of b ≤ 1
unit-small true = omega arith
unit-small false = omega arith

pub tally-small : (p : ℕ → Bool) (n : ℕ) → tally p n ≤ n
tally-small p zero = rw tally-zero (omega arith)
tally-small p (suc n) = rw tally-suc (omega (arith, tally-small p n, unit-small (p n)))

-- numbers that pass stand without a gap from 0 on
pub record IsPrefix (p : ℕ → Bool) : Type 0 where
  pub before : (n : ℕ) → p (suc n) ≡ true → p n ≡ true

pub prefix-all : (p : ℕ → Bool) → IsPrefix p → (d n : ℕ) → p (d + n) ≡ true → p n ≡ true
prefix-all p pre zero n here = let e : 0 + n ≡ n = omega arith in rw e at here
prefix-all p pre (suc d) n here =
    let e : suc d + n ≡ suc (d + n) = omega arith in
    prefix-all p pre d n (pre.before (d + n) (rw e at here))

pub prefix-le : (p : ℕ → Bool) → IsPrefix p → (m n : ℕ) → m ≤ n → p n ≡ true → p m ≡ true
prefix-le p pre m n le here =
    let e : (n - m) + m ≡ n = omega arith in
    prefix-all p pre (n - m) m (subst (λ (k : ℕ). p k ≡ true) (sym e) here)

-- where number n passes, so do n + 1 numbers
pub prefix-tally : (p : ℕ → Bool) → IsPrefix p → (n : ℕ) → p n ≡ true → tally p (suc n) ≡ suc n
prefix-tally p pre zero here = rw (tally-suc, tally-zero, here) refl
prefix-tally p pre (suc n) here = rw (tally-suc, here) (omega (arith, prefix-tally p pre n (pre.before n here)))

pub tally-grows : (p : ℕ → Bool) (n d : ℕ) → tally p n ≤ tally p (d + n)
tally-grows p n zero = let e : 0 + n ≡ n = omega arith in rw e (omega arith)
tally-grows p n (suc d) = let e : suc d + n ≡ suc (d + n) = omega arith in rw (e, tally-suc) (omega (arith, tally-grows p n d))

pub tally-le : (p : ℕ → Bool) (m n : ℕ) → m ≤ n → tally p m ≤ tally p n
tally-le p m n le = let e : (n - m) + m ≡ n = omega arith in subst (λ (k : ℕ). tally p m ≤ tally p k) e (tally-grows p m (n - m))

-- where no number from n on passes, as few pass as there are numbers; where number n doesn't pass, at most n do
pub prefix-few : (p : ℕ → Bool) → IsPrefix p → (n m : ℕ) → p n ≡ false → tally p m ≤ n
prefix-few p pre n zero not = rw tally-zero (omega arith)
prefix-few p pre n (suc m) not = at (prefix-few p pre n m not) (p m) refl (cases_lt m n)
  where
    at : tally p m ≤ n → (b : Bool) → p m ≡ b → (m < n) ⊎ (n ≤ m) → tally p (suc m) ≤ n
    at rest b e (inl below) = omega (arith, tally-small p (suc m))
    at rest false e (inr past) = rw (tally-suc, e) (omega arith)
    at rest true e (inr past) = absurd (let yes : p n ≡ true = prefix-le p pre n m past e in cc)

-- of numbers without a gap, the one before the count passes
pub prefix-tells : (p : ℕ → Bool) → IsPrefix p → (n m : ℕ) → n < tally p m → p n ≡ true
prefix-tells p pre n m below = at (p n) refl
  where
    at : (b : Bool) → p n ≡ b → p n ≡ true
    at true e = e
    at false e = absurd (let few : tally p m ≤ n = prefix-few p pre n m e in omega arith)

one-entry : (xs : List ℕ) (j k : ℕ) → length xs ≤ 1 → phase_entry xs j ≡ phase_entry xs k
one-entry xs j k few = Rattle.sd_base.proofs.FiringsKeepOrder.one_time xs j k few

-- all numbers weigh alike: what passes weighs as much as the first so many
pub weigh-alike : (p : ℕ → Bool) (xs : List ℕ) (n : ℕ) → length xs ≤ 1 → weigh p xs n ≡ total xs (tally p n)
weigh-alike p xs zero few = rw (weigh-zero, tally-zero, total-zero) refl
weigh-alike p xs (suc n) few = at (weigh-alike p xs n few) (p n) refl
  where
    at : weigh p xs n ≡ total xs (tally p n) → (b : Bool) → p n ≡ b → weigh p xs (suc n) ≡ total xs (tally p (suc n))
    at rest true e =
        let more : tally p n + 1 ≡ suc (tally p n) = omega arith in
        rw (weigh-suc, tally-suc, e) (rw (more, total-suc) (omega (arith, one-entry xs n (tally p n) few)))
    at rest false e =
        let same : tally p n + 0 ≡ tally p n = omega arith in
        rw (weigh-suc, tally-suc, e) (rw same (omega arith))

-- what passes stands without a gap: it is the first so many
pub weigh-prefix : (p : ℕ → Bool) (xs : List ℕ) (n : ℕ) → IsPrefix p → weigh p xs n ≡ total xs (tally p n)
weigh-prefix p xs zero pre = rw (weigh-zero, tally-zero, total-zero) refl
weigh-prefix p xs (suc n) pre = at (weigh-prefix p xs n pre) (p n) refl
  where
    at : weigh p xs n ≡ total xs (tally p n) → (b : Bool) → p n ≡ b → weigh p xs (suc n) ≡ total xs (tally p (suc n))
    at rest true e =
        let all : tally p (suc n) ≡ suc n = prefix-tally p pre n e in
        let was : suc n ≡ tally p n + 1 = (let s : tally p (suc n) ≡ tally p n + unit_of (p n) = tally-suc p n in rw (e, all) at s) in
        let now : tally p n ≡ n = omega arith in
        rw (weigh-suc, all, e, total-suc) (omega (arith, ap (total xs) now))
    at rest false e =
        let same : tally p n + 0 ≡ tally p n = omega arith in
        rw (weigh-suc, tally-suc, e) (rw same (omega arith))
