-- A need cycle bounds the rate, and all counts where each actor leads to each.
use Rattle.std.proofs.Common.{◌≡◌, ℕ, ◌+◌, ◌-◌, ◌*◌, ◌/◌, ◌%◌, ◌≤◌, ◌<◌, ◌⊎◌, inl, inr, List, [], ◌∷◌, length, ⊎_elim, subst, sym, refl, ap, ◌∙◌, arith, mul-le-mul_left, mul-le-mul_right, mod-lt, div-add-mod'}
use Rattle.std.proofs.Math.Nat.{le_of_mul-le-mul_left, le_of_mul-le-mul_right}
use Rattle.std.proofs.lemmas.Bool.{cases_lt}
use Rattle.std.specs.Prelude.{slice_index, slice_index_or, count_by, nat_lt}
use Rattle.critical.specs.declared.cycle.NeedCycle.{NeedCycle}
use Rattle.sd_base.specs.Net.{Net, channel_at, total}
use Rattle.sd_base.specs.Schedules.{Needs, Schedule, count_of, start_of, end_of, Admissible}
use Rattle.sd_base.specs.Lawful.{Lawful}
use Rattle.sd_base.specs.Rates.{Rate}
use Rattle.sd_base.proofs.SumsRepeatByTurns.{total-times, total-grows, total-le}
use Rattle.sd_base.proofs.LawfulIsRegular.{wired, balanced}
use Rattle.sd_base.proofs.RoundsKeepTokens.{Whole, whole-round}
use Rattle.sd_base.proofs.FiringOrdersEnd.{sum_to}
use Rattle.sd_base.proofs.LoopRates.{sum_to-part}
use Rattle.critical.specs.Cycles.{HoldsOn}
use Rattle.sd_base.specs.Rates.{HasUpperSide}
use Rattle.sd_base.specs.Connection.{IsPath, IsStronglyConnected, ends_of}
use Rattle.sd_base.proofs.PathsAreWalks.{IsChannel, channel-of}
use Rattle.sd_base.proofs.LoopRates.{slopes, factor-out}
use Rattle.critical.proofs.CountsAreBounded.{Started, started-before, started-bound, count-bounded}
use Rattle.critical.proofs.FiringsStandApart.{first-actor, some-time, firing-late, turn}

module _ (net : Net) (laws : Lawful net) (cycle : NeedCycle) (holds : HoldsOn net cycle) where
  round_at : ℕ
  round_at = slice_index net.round cycle.first.actor

  some-round : 1 ≤ round_at
  unfolding round_at
  some-round = (balanced net laws).fires cycle.first.actor (first-actor net laws cycle.first cycle.steps holds.some_step holds.chain)

  turn-is : turn net laws cycle holds ≡ cycle.rounds * round_at
  unfolding turn round_at
  turn-is = refl

  -- the firings of the cycle's actor that start before t
  own-late : (s : Schedule) → Admissible net s → (t n : ℕ) → Started s t cycle.first.actor n →
      cycle.time * (n + 1) ≤ cycle.rounds * round_at * t + cycle.time * (cycle.first.number + cycle.rounds * round_at)
  own-late s good t n started = rw (turn-is) at (firing-late net laws cycle holds s good n t started.there started.soon)

  pub cycle-rate : (p q : ℕ) → Rate net p q → p * cycle.time ≤ cycle.rounds * q
  unfolding round_at
  cycle-rate p q rate =
      let scaled : cycle.time * p * round_at ≤ q * cycle.rounds * round_at = slopes (cycle.time * p * round_at) (q * cycle.rounds * round_at) (q * (cycle.time * (cycle.first.number + cycle.rounds * round_at)) + cycle.time * rate.slack) lines in
      let le : cycle.time * p ≤ q * cycle.rounds = le_of_mul-le-mul_right scaled some-round in
      omega arith
    where
      lines : (t : ℕ) → cycle.time * p * round_at * t ≤ q * cycle.rounds * round_at * t + (q * (cycle.time * (cycle.first.number + cycle.rounds * round_at)) + cycle.time * rate.slack)
      lines t =
          let found = rate.bounds.below t in
          let a : ℕ = cycle.first.actor in
          let low : p * slice_index net.round cycle.first.actor * t ≤ q * count_of found.0 cycle.first.actor + rate.slack = found.2 a (first-actor net laws cycle.first cycle.steps holds.some_step holds.chain) in
          let high : cycle.time * count_of found.0 cycle.first.actor ≤ cycle.rounds * slice_index net.round cycle.first.actor * t + cycle.time * (cycle.first.number + cycle.rounds * slice_index net.round cycle.first.actor) =
          count-bounded net found.0 found.1.admissible t cycle.first.actor cycle.time _ (found.1.before cycle.first.actor) (own-late found.0 found.1.admissible t) in
          let up : cycle.time * (p * slice_index net.round cycle.first.actor * t) ≤ cycle.time * (q * count_of found.0 cycle.first.actor + rate.slack) = mul-le-mul_left cycle.time low in
          let down : q * (cycle.time * count_of found.0 cycle.first.actor) ≤ q * (cycle.rounds * slice_index net.round cycle.first.actor * t + cycle.time * (cycle.first.number + cycle.rounds * slice_index net.round cycle.first.actor)) = mul-le-mul_left q high in
          omega arith

-- the rounds by which the first actor of a path may be behind its last
unfoldable slack_along : Net → List ℕ → ℕ
slack_along net [] = 0
slack_along net (i ∷ path) = (channel_at net i).tokens + 1 + slack_along net path

module _ (net : Net) (laws : Lawful net) (s : Schedule) (good : Admissible net s) (t : ℕ) where
  -- so many rounds of the target need so many of the source
  rounds-need : (i r : ℕ) → i < length net.channels →
      Needs (channel_at net i) ((r + (channel_at net i).tokens + 1) * slice_index net.round (channel_at net i).target) (r * slice_index net.round (channel_at net i).source)
  rounds-need i r place =
      let whole : Whole net (slice_index net.round) = whole-round net (wired net laws) (balanced net laws) in
      let made = whole.made i place in
      let taken = whole.taken i place in
      let in_all : total (channel_at net i).made (r * slice_index net.round (channel_at net i).source) ≡ r * total (channel_at net i).made (slice_index net.round (channel_at net i).source) = total-times (channel_at net i).made (slice_index net.round (channel_at net i).source) made.0 r made.1 in
      let out_all : total (channel_at net i).taken ((r + (channel_at net i).tokens + 1) * slice_index net.round (channel_at net i).target) ≡ (r + (channel_at net i).tokens + 1) * total (channel_at net i).taken (slice_index net.round (channel_at net i).target) =
      total-times (channel_at net i).taken (slice_index net.round (channel_at net i).target) taken.0 (r + (channel_at net i).tokens + 1) taken.1 in
      let kept : (r + (channel_at net i).tokens + 1) * total (channel_at net i).made (slice_index net.round (channel_at net i).source) ≡ (r + (channel_at net i).tokens + 1) * total (channel_at net i).taken (slice_index net.round (channel_at net i).target) = ap (λ (z : ℕ). (r + (channel_at net i).tokens + 1) * z) (whole.kept i place) in
      let fires : 1 ≤ slice_index net.round (channel_at net i).source = (balanced net laws).fires (channel_at net i).source (laws.sources i place) in
      let turns : 1 ≤ made.0 = ⊎_elim (λ (none : made.0 < 1). absurd (
      let zero_here : made.0 ≡ 0 = omega arith in
      let nothing : made.0 * length (channel_at net i).made ≡ 0 * length (channel_at net i).made = ap (λ (z : ℕ). z * length (channel_at net i).made) zero_here in
      let e : slice_index net.round (channel_at net i).source ≡ made.0 * length (channel_at net i).made = made.1 in omega arith)) (λ (h : 1 ≤ made.0). h) (cases_lt made.0 1) in
      let grows : made.0 ≤ total (channel_at net i).made (slice_index net.round (channel_at net i).source) = rw made.1 (total-grows (channel_at net i).made made.0 (laws.some_made i place)) in
      let some : ((channel_at net i).tokens + 1) * 1 ≤ ((channel_at net i).tokens + 1) * total (channel_at net i).made (slice_index net.round (channel_at net i).source) = mul-le-mul_left ((channel_at net i).tokens + 1) (omega arith) in
      let next : total (channel_at net i).taken ((r + (channel_at net i).tokens + 1) * slice_index net.round (channel_at net i).target) ≤ total (channel_at net i).taken ((r + (channel_at net i).tokens + 1) * slice_index net.round (channel_at net i).target + 1) = total-le (channel_at net i).taken (omega arith) in
      omega arith

  along-channel : (i r : ℕ) → i < length net.channels → Started s t (channel_at net i).target ((r + (channel_at net i).tokens + 1) * slice_index net.round (channel_at net i).target) →
      Started s t (channel_at net i).source (r * slice_index net.round (channel_at net i).source)
  along-channel i r place started =
      let n : ℕ = (r + (channel_at net i).tokens + 1) * slice_index net.round (channel_at net i).target in
      let m : ℕ = r * slice_index net.round (channel_at net i).source in
      let fed = good.fed i n m place started.there (rounds-need i r place) in
      let ended : end_of net s (channel_at net i).source m ≤ start_of s (channel_at net i).target n = fed.1 in
      let soon : start_of s (channel_at net i).target n < t = started.soon in
      record { there = fed.0; soon = omega arith }

  along-path : (path : List ℕ) (a b r : ℕ) → IsPath (ends_of net) a path b → Started s t b ((r + slack_along net path) * slice_index net.round b) → Started s t a (r * slice_index net.round a)
  unfolding slack_along
  along-path [] a b r same started =
      let e : r + 0 ≡ r = omega arith in
      subst (λ (x : ℕ). Started s t x (r * slice_index net.round x)) (sym same) (rw e at started)
  along-path (i ∷ path) a b r (e, is, from, rest) started =
      let at : IsChannel net i e = channel-of net i e is in
      let sum : r + ((channel_at net i).tokens + 1 + slack_along net path) ≡ (r + (channel_at net i).tokens + 1) + slack_along net path = omega arith in
      let next = along-path path e.1 b (r + (channel_at net i).tokens + 1) rest (rw sum at started) in
      subst (λ (x : ℕ). Started s t x (r * slice_index net.round x)) (at.source ∙ sym from)
      (along-channel i r at.place (subst (λ (x : ℕ). Started s t x ((r + (channel_at net i).tokens + 1) * slice_index net.round x)) (sym at.target) next))

module _ (net : Net) (laws : Lawful net) (cycle : NeedCycle) (holds : HoldsOn net cycle) (strong : IsStronglyConnected net) where
  actor-here : cycle.first.actor < length net.times
  actor-here = first-actor net laws cycle.first cycle.steps holds.some_step holds.chain

  -- by actor, what its counts may be above the line
  slack_at : (b : ℕ) → (b < length net.times) ⊎ (length net.times ≤ b) → ℕ
  slack_at b (inl here) = cycle.time * ((cycle.first.number + cycle.rounds + slack_along net (strong cycle.first.actor b actor-here here).0 + 1) * slice_index net.round b)
  slack_at b (inr past) = 0

  slack_of : ℕ → ℕ
  slack_of b = slack_at b (cases_lt b (length net.times))

  module _ (s : Schedule) (good : Admissible net s) (t : ℕ) where
    -- the rounds of the cycle's actor that start before t
    rounds-late : (r : ℕ) → Started s t cycle.first.actor (r * slice_index net.round cycle.first.actor) → cycle.time * r ≤ cycle.rounds * t + cycle.time * (cycle.first.number + cycle.rounds)
    unfolding round_at
    rounds-late r started =
        let fires : 1 ≤ slice_index net.round cycle.first.actor = some-round net laws cycle holds in
        let late : cycle.time * (r * slice_index net.round cycle.first.actor + 1) ≤ cycle.rounds * slice_index net.round cycle.first.actor * t + cycle.time * (cycle.first.number + cycle.rounds * slice_index net.round cycle.first.actor) =
        own-late net laws cycle holds s good t (r * slice_index net.round cycle.first.actor) started in
        let more : cycle.time * cycle.first.number * 1 ≤ cycle.time * cycle.first.number * slice_index net.round cycle.first.actor = mul-le-mul_left (cycle.time * cycle.first.number) fires in
        let scaled : slice_index net.round cycle.first.actor * (cycle.time * r) ≤ slice_index net.round cycle.first.actor * (cycle.rounds * t + cycle.time * (cycle.first.number + cycle.rounds)) = omega arith in
        le_of_mul-le-mul_left scaled fires

    -- a firing that starts before t, of an actor to which a path with this slack leads
    late-by : (b slack : ℕ) → 1 ≤ slice_index net.round b → ((r : ℕ) → Started s t b ((r + slack) * slice_index net.round b) → Started s t cycle.first.actor (r * slice_index net.round cycle.first.actor)) →
        (n : ℕ) → Started s t b n → cycle.time * (n + 1) ≤ cycle.rounds * slice_index net.round b * t + cycle.time * ((cycle.first.number + cycle.rounds + slack + 1) * slice_index net.round b)
    late-by b slack fires back n started = ⊎_elim
        (λ (early : n / slice_index net.round b < slack).
        let below : (n / slice_index net.round b + 1) * slice_index net.round b ≤ (cycle.first.number + cycle.rounds + slack + 1) * slice_index net.round b = mul-le-mul_right (slice_index net.round b) (omega arith) in
        let few : cycle.time * (n + 1) ≤ cycle.time * ((cycle.first.number + cycle.rounds + slack + 1) * slice_index net.round b) = mul-le-mul_left cycle.time (omega arith) in
        omega arith)
        (λ (late : slack ≤ n / slice_index net.round b).
        let whole : n / slice_index net.round b - slack + slack ≡ n / slice_index net.round b = omega arith in
        let there : Started s t b ((n / slice_index net.round b - slack + slack) * slice_index net.round b) = rw whole (started-before net s good t b (n / slice_index net.round b * slice_index net.round b) n (omega arith) started) in
        after (n / slice_index net.round b - slack) (omega arith) (rounds-late (n / slice_index net.round b - slack) (back (n / slice_index net.round b - slack) there)))
        (cases_lt (n / slice_index net.round b) slack)
      where
        split : n / slice_index net.round b * slice_index net.round b + n % slice_index net.round b ≡ n
        split = div-add-mod' n (slice_index net.round b)

        rest : n % slice_index net.round b < slice_index net.round b
        rest = mod-lt n fires

        after : (r : ℕ) → n / slice_index net.round b ≡ r + slack → cycle.time * r ≤ cycle.rounds * t + cycle.time * (cycle.first.number + cycle.rounds) →
            cycle.time * (n + 1) ≤ cycle.rounds * slice_index net.round b * t + cycle.time * ((cycle.first.number + cycle.rounds + slack + 1) * slice_index net.round b)
        after r e few =
            let scaled : slice_index net.round b * (cycle.time * r) ≤ slice_index net.round b * (cycle.rounds * t + cycle.time * (cycle.first.number + cycle.rounds)) = mul-le-mul_left (slice_index net.round b) few in
            let same : n / slice_index net.round b * slice_index net.round b ≡ (r + slack) * slice_index net.round b = ap (λ (z : ℕ). z * slice_index net.round b) e in
            let reach : cycle.time * (n + 1) ≤ cycle.time * ((r + slack + 1) * slice_index net.round b) = mul-le-mul_left cycle.time (omega (arith, split, rest)) in
            omega arith

    late-at : (b : ℕ) (w : (b < length net.times) ⊎ (length net.times ≤ b)) → b < length net.times → (n : ℕ) → Started s t b n → cycle.time * (n + 1) ≤ cycle.rounds * slice_index net.round b * t + slack_at b w
    unfolding slack_at
    late-at b (inl here) actor n started =
        late-by b (slack_along net (strong cycle.first.actor b actor-here here).0) ((balanced net laws).fires b here)
        (λ r there. along-path net laws s good t (strong cycle.first.actor b actor-here here).0 cycle.first.actor b r (strong cycle.first.actor b actor-here here).1 there) n started
    late-at b (inr past) actor n started = absurd (omega arith)

    counts-late : (b : ℕ) → b < length net.times → cycle.time * count_by (λ x. nat_lt x t) (slice_index_or s b []) ≤ cycle.rounds * slice_index net.round b * t + sum_to slack_of (length net.times)
    unfolding slack_of
    counts-late b actor =
        let bound : cycle.time * count_by (λ x. nat_lt x t) (slice_index_or s b []) ≤ cycle.rounds * slice_index net.round b * t + slack_at b (cases_lt b (length net.times)) =
        started-bound net s good t b cycle.time (cycle.rounds * slice_index net.round b * t + slack_at b (cases_lt b (length net.times))) (late-at b (cases_lt b (length net.times)) actor) in
        let part : slack_at b (cases_lt b (length net.times)) ≤ sum_to slack_of (length net.times) = sum_to-part slack_of (length net.times) b actor in
        omega arith

  pub upper-side : (p q g : ℕ) → cycle.rounds ≡ g * p → cycle.time ≡ g * q → HasUpperSide net p q
  upper-side p q g turns time = (
    sum_to slack_of (length net.times),
    λ s t a good actor.
        let late : cycle.time * count_by (λ x. nat_lt x t) (slice_index_or s a []) ≤ cycle.rounds * slice_index net.round a * t + sum_to slack_of (length net.times) = counts-late s good t a actor in
        let left : cycle.time * count_by (λ x. nat_lt x t) (slice_index_or s a []) ≡ (g * q) * count_by (λ x. nat_lt x t) (slice_index_or s a []) = ap (λ (x : ℕ). x * count_by (λ x. nat_lt x t) (slice_index_or s a [])) time in
        let right : cycle.rounds * slice_index net.round a * t ≡ (g * p) * slice_index net.round a * t = ap (λ (x : ℕ). x * slice_index net.round a * t) turns in
        factor-out g (q * count_by (λ x. nat_lt x t) (slice_index_or s a [])) (p * slice_index net.round a * t) (sum_to slack_of (length net.times)) some-factor (omega arith),
  )
    where
      takes : 1 ≤ cycle.time
      takes = rw holds.time (some-time net laws cycle.first cycle.steps holds.some_step holds.chain)

      some-factor : 1 ≤ g
      some-factor = ⊎_elim
          (λ (none : g < 1). absurd (let zero_here : g ≡ 0 = omega arith in let nothing : g * q ≡ 0 * q = ap (λ (x : ℕ). x * q) zero_here in omega (arith, takes)))
          (λ (h : 1 ≤ g). h) (cases_lt g 1)
