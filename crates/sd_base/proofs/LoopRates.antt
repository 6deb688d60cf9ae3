-- The firings round a loop give the rate of a net.
use Rattle.std.proofs.Common.{◌≡◌, ℕ, zero, suc, ◌+◌, ◌-◌, ◌*◌, ◌≤◌, ◌<◌, Bool, true, false, cond, List, [], ◌∷◌, length, ⊎_elim, subst, refl, ap, arith, mul-le-mul_left, mul-le-mul_right, ltb-true, lt-ltb}
use Rattle.std.proofs.Math.Nat.{le_of_mul-le-mul_left, le_of_mul-le-mul_right}
use Rattle.std.specs.Prelude.{slice_index, slice_index_or, count_by, nat_lt}
use Rattle.std.specs.Int.{IsGcd}
use Rattle.std.proofs.lemmas.List.{get_or_past}
use Rattle.std.proofs.lemmas.Bool.{cases_lt}
use Rattle.sd_base.specs.Net.{Net}
use Rattle.sd_base.specs.Schedules.{Schedule, count_of, Admissible, Earliest, HasInputs}
use Rattle.sd_base.specs.SelfTimed.{earliest}
use Rattle.sd_base.specs.Lawful.{Lawful}
use Rattle.sd_base.specs.Rates.{IsLoopTable, RateBy, Rate}
use Rattle.sd_base.specs.Futures.{Repeats}
use Rattle.sd_base.proofs.LawfulIsRegular.{Regular, regular, balanced}
use Rattle.sd_base.proofs.FiringOrdersEnd.{sum_to}
use Rattle.sd_base.proofs.EndsDecideCounts.{early_at, past_none}
use Rattle.sd_base.proofs.EqualShapesRepeat.{count-rises, since-then, equal-futures}
use Rattle.sd_base.proofs.LoopsSpanRounds.{repeats-by}
use Rattle.sd_base.proofs.LeastMultiplesDivide.{same_fraction}
use Rattle.sd_base.proofs.ElementsKeepPlaces.{count-cons}

-- a count that rises by r in each p keeps near the line of slope r/p
module _ (n : ℕ → ℕ) (e p r b : ℕ) (some : 0 < p) (rises : (x y : ℕ) → x ≤ y → n x ≤ n y) (turns : (t : ℕ) → e < t → n (t + p) ≡ n t + r)
    (enough : p * n (e + p + 1) + r * (e + p + 1) ≤ b) where
  near-early : (t : ℕ) → t ≤ e + p → (p * n t ≤ r * t + b) × (r * t ≤ p * n t + b)
  near-early t early =
      let count : p * n t ≤ p * n (e + p + 1) = mul-le-mul_left p (rises t (e + p + 1) (omega arith)) in
      let line : r * t ≤ r * (e + p + 1) = mul-le-mul_left r (omega arith) in
      (omega arith, omega arith)

  near-next : (t : ℕ) → e < t → (p * n t ≤ r * t + b) × (r * t ≤ p * n t + b) → (p * n (t + p) ≤ r * (t + p) + b) × (r * (t + p) ≤ p * n (t + p) + b)
  near-next t late (above, below) =
      let count : p * n (t + p) ≡ p * (n t + r) = ap (λ (x : ℕ). p * x) (turns t late) in
      (omega arith, omega arith)

  near : (fuel t : ℕ) → t < fuel → (p * n t ≤ r * t + b) × (r * t ≤ p * n t + b)
  near zero t below = absurd (omega arith)
  near (suc fuel) t below = ⊎_elim
      (λ (late : e + p < t).
      let back : (t - p) + p ≡ t = omega arith in
      subst (λ (x : ℕ). (p * n x ≤ r * x + b) × (r * x ≤ p * n x + b)) back (near-next (t - p) (omega arith) (near fuel (t - p) (omega arith))))
      (λ (early : t ≤ e + p). near-early t early)
      (cases_lt (e + p) t)

  pub rate_bounds : (t : ℕ) → (p * n t ≤ r * t + b) × (r * t ≤ p * n t + b)
  rate_bounds t = near (suc t) t (omega arith)

-- a common factor goes out
pub factor-out : (g x y b : ℕ) → 1 ≤ g → g * x ≤ g * y + b → x ≤ y + b
factor-out g x y b some le =
    let more : 1 * b ≤ g * b = mul-le-mul_right b some in
    let scaled : g * x ≤ g * (y + b) = omega arith in
    le_of_mul-le-mul_left scaled some

pub sum_to-part : (f : ℕ → ℕ) (n a : ℕ) → a < n → f a ≤ sum_to f n
unfolding sum_to
sum_to-part f zero a below = absurd (omega arith)
sum_to-part f (suc n) a below = ⊎_elim
    (λ (less : a < n). omega (arith, sum_to-part f n a less))
    (λ (last : n ≤ a). let same : a ≡ n = omega arith in rw same (omega arith))
    (cases_lt a n)

count-next : (t x : ℕ) (xs : List ℕ) (m : ℕ) → count_by (λ y. nat_lt y t) xs ≤ m - 1 → (x < t → 0 < m) → (b : Bool) → nat_lt x t ≡ b → cond (nat_lt x t) 1 0 + count_by (λ y. nat_lt y t) xs ≤ m
count-next t x xs m rest first true soon = let some : 0 < m = first (ltb-true x t soon) in rw soon (omega (arith, rest))
count-next t x xs m rest first false late = rw late (omega (arith, rest))

-- where each number of a list that is less than t has its place before m, there are at most m of them
pub count-bound : (t : ℕ) (xs : List ℕ) (m : ℕ) → ((k : ℕ) → k < length xs → slice_index xs k < t → k < m) → count_by (λ x. nat_lt x t) xs ≤ m
count-bound t [] m places = omega arith
count-bound t (x ∷ xs) m places =
    rw (count-cons (λ y. nat_lt y t) x xs) (count-next t x xs m (count-bound t xs (m - 1) (λ k there soon. omega (arith, places (suc k) (omega arith) soon))) (λ soon. places 0 (omega arith) soon) (nat_lt x t) refl)

-- an admissible schedule starts no more firings before t than the earliest one
pub no-more : (net : Net) (t : ℕ) (early s : Schedule) → Earliest net t early → Admissible net s → (a : ℕ) → count_by (λ x. nat_lt x t) (slice_index_or s a []) ≤ count_of early a
no-more net t early s earliest good a = count-bound t (slice_index_or s a []) (count_of early a) (λ k there soon. (earliest.least s good a k there soon).0)

module _ (net : Net) (reg : Regular net) (fed : HasInputs net) (entry period rounds p q g : ℕ) (again : Repeats net entry (entry + period) (λ a. rounds * slice_index net.round a))
    (passes : 1 ≤ period) (turns : rounds ≡ g * p) (time : period ≡ g * q) where
  started : ℕ → ℕ → ℕ
  started a t = count_of (earliest net t) a

  slack_at : ℕ → ℕ
  slack_at a = period * started a (entry + period + 1) + rounds * slice_index net.round a * (entry + period + 1)

  slack_of : ℕ
  slack_of = sum_to slack_at (length net.times)

  some-factor : 1 ≤ g
  some-factor = ⊎_elim
      (λ (none : g < 1). absurd (let zero_here : g ≡ 0 = omega arith in let nothing : g * q ≡ 0 * q = ap (λ (x : ℕ). x * q) zero_here in omega arith))
      (λ (h : 1 ≤ g). h) (cases_lt g 1)

  some-time : 1 ≤ q
  some-time = ⊎_elim
      (λ (none : q < 1). absurd (let zero_here : q ≡ 0 = omega arith in let nothing : g * q ≡ g * 0 = ap (λ (x : ℕ). g * x) zero_here in omega arith))
      (λ (h : 1 ≤ q). h) (cases_lt q 1)

  started-turns : (a t : ℕ) → entry < t → started a (t + period) ≡ started a t + rounds * slice_index net.round a
  unfolding started
  started-turns a t late =
      let d : ℕ = t - (entry + 1) in
      let here : entry + (t - (entry + 1)) + 1 ≡ t = omega arith in
      let there : entry + period + (t - (entry + 1)) + 1 ≡ t + period = omega arith in
      let counts : count_of (earliest net (entry + period + (t - (entry + 1)) + 1)) a ≡ count_of (earliest net (entry + (t - (entry + 1)) + 1)) a + rounds * slice_index net.round a = again.counts (t - (entry + 1)) a in
      rw here at (rw there at counts)

  near-line : (a t : ℕ) → a < length net.times →
      (period * started a t ≤ rounds * slice_index net.round a * t + slack_of) × (rounds * slice_index net.round a * t ≤ period * started a t + slack_of)
  unfolding started slack_at slack_of
  near-line a t actor =
      rate_bounds (started a) entry period (rounds * slice_index net.round a) slack_of passes (λ x y le. count-rises net reg fed x y le a) (started-turns a) (sum_to-part slack_at (length net.times) a actor) t

  near-above : (a t : ℕ) → a < length net.times → q * started a t ≤ p * slice_index net.round a * t + slack_of
  near-above a t actor =
      let line : period * started a t ≤ rounds * slice_index net.round a * t + slack_of = (near-line a t actor).0 in
      let left : period * started a t ≡ (g * q) * started a t = ap (λ (x : ℕ). x * started a t) time in
      let right : rounds * slice_index net.round a * t ≡ (g * p) * slice_index net.round a * t = ap (λ (x : ℕ). x * slice_index net.round a * t) turns in
      factor-out g (q * started a t) (p * slice_index net.round a * t) slack_of some-factor (omega arith)

  near-below : (a t : ℕ) → a < length net.times → p * slice_index net.round a * t ≤ q * started a t + slack_of
  near-below a t actor =
      let line : rounds * slice_index net.round a * t ≤ period * started a t + slack_of = (near-line a t actor).1 in
      let left : period * started a t ≡ (g * q) * started a t = ap (λ (x : ℕ). x * started a t) time in
      let right : rounds * slice_index net.round a * t ≡ (g * p) * slice_index net.round a * t = ap (λ (x : ℕ). x * slice_index net.round a * t) turns in
      factor-out g (p * slice_index net.round a * t) (q * started a t) slack_of some-factor (omega arith)

  bounded : RateBy net p q slack_of
  unfolding started
  bounded = record {
    above = λ s t a good actor.
        let few : count_by (λ x. nat_lt x t) (slice_index_or s a []) ≤ started a t = no-more net t (earliest net t) s (early_at net reg fed t) good a in
        let scaled : q * count_by (λ x. nat_lt x t) (slice_index_or s a []) ≤ q * started a t = mul-le-mul_left q few in
        omega (arith, near-above a t actor);
    below = λ t. (earliest net t, early_at net reg fed t, λ a actor. near-below a t actor);
  }

  pub loop-rate : IsGcd p q 1 → Rate net p q
  loop-rate lowest = record { positive = some-time; lowest = lowest; slack = slack_of; bounds = bounded }

-- a loop's table gives the rate
module _ (net : Net) (laws : Lawful net) (fed : HasInputs net) (entry period rounds : ℕ) (before : List ℕ) (starts : List (List ℕ)) (table : IsLoopTable net entry period rounds before starts) where
  passes_on : entry < entry + period
  passes_on = omega (arith, table.loop.passes)

  table-counts : (a : ℕ) → count_of (earliest net (entry + period + 1)) a ≡ count_of (earliest net (entry + 1)) a + rounds * slice_index net.round a
  table-counts a = ⊎_elim
      (λ (actor : a < length net.times). omega (arith, table.earlier a actor, table.whole a actor, table.all a actor))
      (λ (past : length net.times ≤ a).
      let no_round : slice_index net.round a ≡ 0 = get_or_past net.round a 0 (omega (arith, (balanced net laws).actors)) in
      let nothing : rounds * slice_index net.round a ≡ rounds * 0 = ap (λ (x : ℕ). rounds * x) no_round in
      omega (arith, past_none net (regular net laws) fed (entry + period + 1) a past, past_none net (regular net laws) fed (entry + 1) a past))
      (cases_lt a (length net.times))

  pub table-repeats : Repeats net entry (entry + period) (λ a. rounds * slice_index net.round a)
  table-repeats = repeats-by net entry (entry + period) (since-then net (regular net laws) fed entry (entry + period) passes_on table.loop.same) (λ a. rounds * slice_index net.round a) table-counts
      (equal-futures net (regular net laws) fed entry (entry + period) passes_on table.loop.same)

  pub table-rate : (p q g : ℕ) → rounds ≡ g * p → period ≡ g * q → IsGcd p q 1 → Rate net p q
  table-rate p q g turns time lowest = loop-rate net (regular net laws) fed entry period rounds p q g table-repeats table.loop.passes turns time lowest

-- ---- at most one rate

pub count-all : (t : ℕ) (xs : List ℕ) → ((k : ℕ) → k < length xs → slice_index xs k < t) → length xs ≤ count_by (λ x. nat_lt x t) xs
count-all t [] before = omega arith
count-all t (x ∷ xs) before =
    let first : nat_lt x t ≡ true = lt-ltb x t (before 0 (omega arith)) in
    rw (count-cons (λ y. nat_lt y t) x xs) (rw first (omega (arith, count-all t xs (λ k there. before (suc k) (omega arith)))))

-- lines of which one never gets above the other by more than b rise in their order
pub slopes : (x y b : ℕ) → ((t : ℕ) → x * t ≤ y * t + b) → x ≤ y
slopes x y b below = ⊎_elim
    (λ (more : y < x). absurd (
    let far : x * (b + 1) ≤ y * (b + 1) + b = below (b + 1) in
    let steep : (y + 1) * (b + 1) ≤ x * (b + 1) = mul-le-mul_right (b + 1) (omega arith) in
    omega arith))
    (λ (h : x ≤ y). h) (cases_lt y x)

rate-le : (net : Net) (p q x y b c : ℕ) → 1 ≤ length net.times → 1 ≤ slice_index net.round 0 → RateBy net p q b → RateBy net x y c → p * y ≤ x * q
rate-le net p q x y b c some fires one other =
    let scaled : p * y * slice_index net.round 0 ≤ x * q * slice_index net.round 0 = slopes (p * y * slice_index net.round 0) (x * q * slice_index net.round 0) (q * c + y * b) lines in
    le_of_mul-le-mul_right scaled fires
  where
    lines : (t : ℕ) → p * y * slice_index net.round 0 * t ≤ x * q * slice_index net.round 0 * t + (q * c + y * b)
    lines t =
        let found = one.below t in
        let s : Schedule = found.0 in
        let n : ℕ = count_of s 0 in
        let all : n ≤ count_by (λ z. nat_lt z t) (slice_index_or found.0 0 []) = count-all t (slice_index_or found.0 0 []) (λ k there. found.1.before 0 k there) in
        let low : p * slice_index net.round 0 * t ≤ q * n + b = found.2 0 some in
        let high : y * count_by (λ z. nat_lt z t) (slice_index_or found.0 0 []) ≤ x * slice_index net.round 0 * t + c = other.above found.0 t 0 found.1.admissible some in
        let mine : y * n ≤ y * count_by (λ z. nat_lt z t) (slice_index_or found.0 0 []) = mul-le-mul_left y all in
        let up : y * (p * slice_index net.round 0 * t) ≤ y * (q * n + b) = mul-le-mul_left y low in
        let down : q * (y * n) ≤ q * (x * slice_index net.round 0 * t + c) = mul-le-mul_left q (omega arith) in
        omega arith

pub one-rate : (net : Net) (p q x y : ℕ) → Lawful net → Rate net p q → Rate net x y → (p ≡ x) × (q ≡ y)
one-rate net p q x y laws one other =
    let fires : 1 ≤ slice_index net.round 0 = (balanced net laws).fires 0 laws.some_actor in
    let up : p * y ≤ x * q = rate-le net p q x y one.slack other.slack laws.some_actor fires one.bounds other.bounds in
    let down : x * q ≤ p * y = rate-le net x y p q other.slack one.slack laws.some_actor fires other.bounds one.bounds in
    same_fraction p q x y one.positive other.positive one.lowest other.lowest (omega arith)
