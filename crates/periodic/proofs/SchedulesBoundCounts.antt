-- A periodic schedule that holds bounds the earliest counts from below.
use Rattle.std.proofs.Common.{◌≡◌, ℕ, ◌+◌, ◌*◌, ◌/◌, ◌%◌, ◌≤◌, ◌<◌, List, [], length, sum, ⊎_elim, arith, mod-lt, div-mul-le_self, mul-le-mul_left, mul-le-mul_right}
use Rattle.std.proofs.lemmas.Bool.{cases_lt}
use Rattle.std.proofs.lemmas.List.Sums.{get_or-le-sum_by}
use Rattle.std.specs.Prelude.{slice_index, slice_index_or}
use Rattle.sd_base.specs.Net.{Net}
use Rattle.sd_base.specs.Schedules.{Schedule, count_of, start_of, Admissible, Earliest, HasInputs}
use Rattle.sd_base.specs.SelfTimed.{earliest}
use Rattle.sd_base.specs.Lawful.{Lawful}
use Rattle.sd_base.proofs.LawfulIsRegular.{regular, wired, balanced}
use Rattle.sd_base.proofs.FiringOrdersEnd.{sum_to}
use Rattle.sd_base.proofs.LoopRates.{sum_to-part}
use Rattle.sd_base.proofs.EndsDecideCounts.{early_at}
use Rattle.periodic.specs.Periods.{start_at, IsCut, Holds, RoundsBelow}
use Rattle.periodic.proofs.StartsComeAgain.{some-turn}

-- rounds by a moment that the start of firing c has reached
reach-below : (r t x q p c s : ℕ) → t ≤ x + q * p → q * r ≤ c → x ≤ s → r * t ≤ p * c + r * s
reach-below r t x q p c s reach turns small =
    let one : r * t ≤ r * (x + q * p) = mul-le-mul_left r reach in
    let two : r * x ≤ r * s = mul-le-mul_left r small in
    let three : q * r * p ≤ c * p = mul-le-mul_right p turns in
    omega arith

-- an admissible schedule of starts before t has no more firings than the earliest one
within-earliest : (net : Net) (t : ℕ) (s early : Schedule) (a : ℕ) → Earliest net t early → Admissible net s → ((k : ℕ) → k < count_of s a → start_of s a k < t) → count_of s a ≤ count_of early a
within-earliest net t s early a is good before = ⊎_elim
    (λ (more : count_of early a < count_of s a). absurd (let there = (is.least s good a (count_of early a) more (before (count_of early a) more)).0 in omega arith))
    (λ (h : count_of s a ≤ count_of early a). h)
    (cases_lt (count_of early a) (count_of s a))

module _ (net : Net) (period rounds : ℕ) (starts : List (List ℕ)) (laws : Lawful net) (inputs : HasInputs net) (holds : Holds net period rounds starts) where
  slack_of : ℕ → ℕ
  slack_of a = rounds * slice_index net.round a * sum (slice_index_or starts a [])

  actor-bound : (t a : ℕ) → a < length net.times → rounds * slice_index net.round a * t ≤ period * count_of (earliest net t) a + rounds * slice_index net.round a * sum (slice_index_or starts a [])
  actor-bound t a actor =
      let cut = holds.cuts t in
      let s : Schedule = cut.0 in
      let is : IsCut net period starts t cut.0 = cut.1 in
      let c : ℕ = count_of cut.0 a in
      let row : List ℕ = slice_index_or starts a [] in
      let some : 0 < length row = some-turn net (wired net laws) (balanced net laws) rounds starts holds.turns holds.listed a actor in
      let past : t ≤ start_at period starts a c = ⊎_elim
      (λ (soon : start_at period starts a c < t). absurd (let there : c < c = (is.counts a c actor).1 soon in omega arith))
      (λ (h : t ≤ start_at period starts a c). h)
      (cases_lt (start_at period starts a c) t) in
      let before : (k : ℕ) → k < count_of cut.0 a → start_of cut.0 a k < t = λ k there.
      (let moment : start_of cut.0 a k ≡ start_at period starts a k = is.moments a k actor there in
      let soon : start_at period starts a k < t = (is.counts a k actor).0 there in
      omega arith) in
      let few : c ≤ count_of (earliest net t) a = within-earliest net t cut.0 (earliest net t) a (early_at net (regular net laws) inputs t) cut.2 before in
      let listed : slice_index row (c % length row) ≤ sum row = get_or-le-sum_by (λ (x : ℕ). x) row (c % length row) 0 (mod-lt c some) in
      let long : length row ≡ rounds * slice_index net.round a = holds.listed.whole a actor in
      let turns : c / length row * length row ≤ c = div-mul-le_self c (length row) in
      let reach : length row * t ≤ period * c + length row * sum row = reach-below (length row) t (slice_index row (c % length row)) (c / length row) period c (sum row) past turns listed in
      let more : period * c ≤ period * count_of (earliest net t) a = mul-le-mul_left period few in
      rw (← long) (omega arith)

  rounds-below : (b : ℕ) × ((t : ℕ) → (s : Schedule) × Earliest net t s × ((a : ℕ) → a < length net.times → rounds * slice_index net.round a * t ≤ period * count_of s a + b))
  unfolding slack_of
  rounds-below = (
    sum_to slack_of (length net.times),
    λ t. (
      earliest net t,
      early_at net (regular net laws) inputs t,
      λ a actor.
          let part : rounds * slice_index net.round a * sum (slice_index_or starts a []) ≤ sum_to slack_of (length net.times) = sum_to-part slack_of (length net.times) a actor in
          omega (arith, actor-bound t a actor),
    ),
  )

pub rounds_below : RoundsBelow
rounds_below net period rounds starts laws inputs holds = rounds-below net period rounds starts laws inputs holds
