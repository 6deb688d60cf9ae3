-- Tokens are counted one by one: firings take no more than were there or were made by those firings that they take of.
use Rattle.std.proofs.Common.{◌≡◌, ℕ, zero, suc, ◌+◌, ◌-◌, ◌≤◌, ◌<◌, ◌⊎◌, inl, inr, Bool, true, false, List, refl, ap, arith}
use Rattle.std.proofs.lemmas.Bool.{cases_lt}
use Rattle.sd_base.specs.Net.{phase_entry, total}
use Rattle.sd_base.proofs.SumsRepeatByTurns.{total-zero, total-suc}
use Rattle.single_rate.proofs.TalliesGiveWeights.{weigh, weigh-zero, weigh-suc, weight_of}

-- how many of the tokens from a on up to before b have a number below z
abbrev pub below_in : ℕ → ℕ → ℕ → ℕ
below_in a b z = (z - a) - (z - b)

-- of the first n firings, those that pass move so many tokens with a number below z, where the first token has number d
pub moved : (ℕ → Bool) → List ℕ → ℕ → ℕ → ℕ → ℕ
moved p xs d zero z = 0
moved p xs d (suc n) z = moved p xs d n z + weight_of (p n) (below_in (d + total xs n) (d + total xs (suc n)) z)

pub moved-suc : (p : ℕ → Bool) (xs : List ℕ) (d n z : ℕ) → moved p xs d (suc n) z ≡ moved p xs d n z + weight_of (p n) (below_in (d + total xs n) (d + total xs (suc n)) z)
unfolding moved
moved-suc p xs d n z = refl

pub moved-zero : (p : ℕ → Bool) (xs : List ℕ) (d z : ℕ) → moved p xs d 0 z ≡ 0
unfolding moved
moved-zero p xs d z = refl

total-up : (xs : List ℕ) (n : ℕ) → total xs n ≤ total xs (suc n)
total-up xs n = rw total-suc (omega arith)

weight-le : (b : Bool) (m n : ℕ) → m ≤ n → weight_of b m ≤ weight_of b n
weight-le true m n le = le
weight-le false m n le = omega arith

weight-same : (b : Bool) (m n : ℕ) → m ≡ n → weight_of b m ≡ weight_of b n
weight-same b m n e = ap (weight_of b) e

module _ (p : ℕ → Bool) (xs : List ℕ) (d : ℕ) where
  -- no token from z on is among those of the first n firings
  pub moved-past : (n z : ℕ) → d + total xs n ≤ z → moved p xs d n (suc z) ≡ moved p xs d n z
  moved-past zero z past = rw (moved-zero, moved-zero) refl
  moved-past (suc n) z past =
      let up : total xs n ≤ total xs (suc n) = total-up xs n in
      let same : below_in (d + total xs n) (d + total xs (suc n)) (suc z) ≡ below_in (d + total xs n) (d + total xs (suc n)) z = omega arith in
      rw (moved-suc, moved-suc) (omega (arith, moved-past n z (omega arith), weight-same (p n) _ _ same))

  pub moved-rises : (n z : ℕ) → moved p xs d n z ≤ moved p xs d n (suc z)
  moved-rises zero z = rw (moved-zero, moved-zero) (omega arith)
  moved-rises (suc n) z =
      let up : total xs n ≤ total xs (suc n) = total-up xs n in
      let more : below_in (d + total xs n) (d + total xs (suc n)) z ≤ below_in (d + total xs n) (d + total xs (suc n)) (suc z) = omega arith in
      rw (moved-suc, moved-suc) (omega (arith, moved-rises n z, weight-le (p n) _ _ more))

  -- firing j, which passes, moves token z
  pub record Moves (j z : ℕ) : Type 0 where
    pub passes : p j ≡ true
    pub from : d + total xs j ≤ z
    pub to : z < d + total xs (suc j)

  -- token z is moved by at most one of the first n firings
  pub moved-by : (n z : ℕ) → (moved p xs d n (suc z) ≤ moved p xs d n z) ⊎ ((moved p xs d n (suc z) ≤ suc (moved p xs d n z)) × ((j : ℕ) × (j < n) × Moves j z))
  moved-by zero z = inl (rw (moved-zero, moved-zero) (omega arith))
  moved-by (suc n) z = at (moved-by n z) (p n) refl (cases_lt z (d + total xs n)) (cases_lt z (d + total xs (suc n)))
    where
      at : (moved p xs d n (suc z) ≤ moved p xs d n z) ⊎ ((moved p xs d n (suc z) ≤ suc (moved p xs d n z)) × ((j : ℕ) × (j < n) × Moves j z)) → (b : Bool) → p n ≡ b → (z < d + total xs n) ⊎ (d + total xs n ≤ z) → (z < d + total xs (suc n)) ⊎ (d + total xs (suc n) ≤ z)
          → (moved p xs d (suc n) (suc z) ≤ moved p xs d (suc n) z) ⊎ ((moved p xs d (suc n) (suc z) ≤ suc (moved p xs d (suc n) z)) × ((j : ℕ) × (j < suc n) × Moves j z))
      at (inl none) b e (inl early) to =
          let up : total xs n ≤ total xs (suc n) = total-up xs n in
          let same : below_in (d + total xs n) (d + total xs (suc n)) (suc z) ≡ below_in (d + total xs n) (d + total xs (suc n)) z = omega arith in
          inl (rw (moved-suc, moved-suc) (omega (arith, weight-same (p n) _ _ same)))
      at (inr found) b e (inl early) to =
          let up : total xs n ≤ total xs (suc n) = total-up xs n in
          let same : below_in (d + total xs n) (d + total xs (suc n)) (suc z) ≡ below_in (d + total xs n) (d + total xs (suc n)) z = omega arith in
          let least = found.0 in
          inr (rw (moved-suc, moved-suc) (omega (arith, weight-same (p n) _ _ same)), (found.1.0, omega (arith, found.1.1), found.1.2))
      at rest b e (inr from) (inr late) =
          let past : moved p xs d (suc n) (suc z) ≡ moved p xs d (suc n) z = moved-past (suc n) z late in
          inl (omega arith)
      at rest false e (inr from) (inl to) =
          let past : moved p xs d n (suc z) ≡ moved p xs d n z = moved-past n z from in
          inl (rw (moved-suc, moved-suc, e) (omega arith))
      at rest true e (inr from) (inl to) =
          let past : moved p xs d n (suc z) ≡ moved p xs d n z = moved-past n z from in
          inr (rw (moved-suc, moved-suc, e) (omega arith), (n, omega arith, record { passes = e; from = from; to = to }))

  pub moved-hit : (n z j : ℕ) → j < n → Moves j z → suc (moved p xs d n z) ≤ moved p xs d n (suc z)
  moved-hit zero z j below moves = absurd (omega arith)
  moved-hit (suc n) z j below moves = at (λ (h : j < n). moved-hit n z j h moves) (cases_lt j n)
    where
      at : (j < n → suc (moved p xs d n z) ≤ moved p xs d n (suc z)) → (j < n) ⊎ (n ≤ j) → suc (moved p xs d (suc n) z) ≤ moved p xs d (suc n) (suc z)
      at rest (inl early) =
          let up : total xs n ≤ total xs (suc n) = total-up xs n in
          let more : below_in (d + total xs n) (d + total xs (suc n)) z ≤ below_in (d + total xs n) (d + total xs (suc n)) (suc z) = omega arith in
          rw (moved-suc, moved-suc) (omega (arith, rest early, weight-le (p n) _ _ more))
      at rest (inr late) =
          let this : j ≡ n = omega arith in
          let passes : p n ≡ true = rw this at moves.passes in
          let from : d + total xs n ≤ z = rw this at moves.from in
          let to : z < d + total xs (suc n) = rw this at moves.to in
          rw (moved-suc, moved-suc, passes) (omega (arith, moved-rises n z))

  pub moved-all : (n z : ℕ) → d + total xs n ≤ z → moved p xs d n z ≡ weigh p xs n
  moved-all zero z past = rw (moved-zero, weigh-zero) refl
  moved-all (suc n) z past =
      let up : total xs n ≤ total xs (suc n) = total-up xs n in
      let more : total xs (suc n) ≡ total xs n + phase_entry xs n = total-suc xs n in
      let whole : below_in (d + total xs n) (d + total xs (suc n)) z ≡ phase_entry xs n = omega arith in
      rw (moved-suc, weigh-suc) (omega (arith, moved-all n z (omega arith), weight-same (p n) _ _ whole))

  pub moved-most : (n z : ℕ) → moved p xs d n z ≤ weigh p xs n
  moved-most zero z = rw (moved-zero, weigh-zero) (omega arith)
  moved-most (suc n) z =
      let more : total xs (suc n) ≡ total xs n + phase_entry xs n = total-suc xs n in
      let some : below_in (d + total xs n) (d + total xs (suc n)) z ≤ phase_entry xs n = omega arith in
      rw (moved-suc, weigh-suc) (omega (arith, moved-most n z, weight-le (p n) _ _ some))

  pub moved-none : (n : ℕ) → moved p xs d n 0 ≡ 0
  moved-none zero = moved-zero p xs d 0
  moved-none (suc n) =
      let none : below_in (d + total xs n) (d + total xs (suc n)) 0 ≡ 0 = omega arith in
      let nothing : weight_of (p n) 0 ≡ 0 = weightless (p n) in
      rw moved-suc (omega (arith, moved-none n, weight-same (p n) _ _ none))
    where
      weightless : (b : Bool) → weight_of b 0 ≡ 0
      weightless true = refl
      weightless false = refl

-- which firing of the first n made token z
pub maker : (xs : List ℕ) (d n z : ℕ) → d ≤ z → z < d + total xs n → (j : ℕ) × (j < n) × (d + total xs j ≤ z) × (z < d + total xs (suc j))
maker xs d zero z from to = absurd (let none : total xs 0 ≡ 0 = total-zero xs in omega arith)
maker xs d (suc n) z from to = at (λ (h : z < d + total xs n). maker xs d n z from h) (cases_lt z (d + total xs n))
  where
    at : (z < d + total xs n → (j : ℕ) × (j < n) × (d + total xs j ≤ z) × (z < d + total xs (suc j))) → (z < d + total xs n) ⊎ (d + total xs n ≤ z) → (j : ℕ) × (j < suc n) × (d + total xs j ≤ z) × (z < d + total xs (suc j))
    at rest (inl early) = let found = rest early in (found.0, omega (arith, found.1), found.2, found.3)
    at rest (inr late) = (n, omega arith, late, to)

-- firings that pass take of firings that pass, but for the first d tokens
module _ (p q : ℕ → Bool) (xs ys : List ℕ) (d : ℕ) (fed : (j n z : ℕ) → Moves p xs 0 j z → Moves (λ k. true) ys d n z → q n ≡ true) (m n : ℕ) (reach : total xs m ≤ d + total ys n) where
  tokens_by : (z : ℕ) → z ≤ total xs m → moved p xs 0 m z ≤ (z - (z - d)) + moved q ys d n z
  tokens_by zero within = let none : moved p xs 0 m 0 ≡ 0 = moved-none p xs 0 m in omega arith
  tokens_by (suc z) within = at (tokens_by z (omega arith)) (moved-by p xs 0 m z) (cases_lt z d)
    where
      at : moved p xs 0 m z ≤ (z - (z - d)) + moved q ys d n z → (moved p xs 0 m (suc z) ≤ moved p xs 0 m z) ⊎ ((moved p xs 0 m (suc z) ≤ suc (moved p xs 0 m z)) × ((j : ℕ) × (j < m) × Moves p xs 0 j z)) → (z < d) ⊎ (d ≤ z)
          → moved p xs 0 m (suc z) ≤ (suc z - (suc z - d)) + moved q ys d n (suc z)
      at so_far (inl none) first = omega (arith, moved-rises q ys d n z)
      at so_far (inr found) (inl first) = let one = found.0 in omega (arith, moved-rises q ys d n z)
      at so_far (inr found) (inr later) =
          let made = maker ys d n z later (omega arith) in
          let passes : q made.0 ≡ true = fed found.1.0 made.0 z found.1.2 (record { passes = refl; from = made.2; to = made.3 }) in
          let one = found.0 in
          omega (arith, moved-hit q ys d n z made.0 made.1 (record { passes = passes; from = made.2; to = made.3 }))

  -- so they take no more than the first d tokens and what those made
  pub taken-made : weigh p xs m ≤ d + weigh q ys n
  taken-made =
      let all : moved p xs 0 m (total xs m) ≡ weigh p xs m = moved-all p xs 0 m (total xs m) (omega arith) in
      omega (arith, tokens_by (total xs m) (omega arith), moved-most q ys d n (total xs m))
