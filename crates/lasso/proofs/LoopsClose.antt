-- Self-timed execution of a live net in which each actor leads to each comes to a loop: its shapes are small, so they can't all differ.
use Rattle.std.proofs.Common.{◌≡◌, ℕ, suc, ◌+◌, ◌-◌, ◌*◌, ◌%◌, ◌≤◌, ◌<◌, ◌⊎◌, [], length, map, sum, inl, inr, ⊎_elim, sym, subst, arith, mod-lt}
use Rattle.std.specs.Prelude.{slice_index}
use Rattle.std.proofs.lemmas.Bool.{cases_lt}
use Rattle.std.proofs.lemmas.List.{get_or-map, length-map}
use Rattle.std.proofs.lemmas.List.FromFn.{length-map-range_with_len}
use Rattle.sd_base.specs.declared.limits.TheConstants.{NET_TOKENS, RATE, ROUND, TIME}
use Rattle.sd_base.specs.Net.{Net, nowhere}
use Rattle.sd_base.specs.Schedules.{HasInputs, count_of, end_of, phases_at, start_of, time_of}
use Rattle.sd_base.specs.SelfTimed.{earliest, events_by, remaining_of, shape_at, shape_of, tokens_of}
use Rattle.sd_base.specs.Lawful.{Lawful}
use Rattle.sd_base.specs.Connection.{IsStronglyConnected}
use Rattle.sd_base.specs.Rates.{IsLoop}
use Rattle.sd_base.specs.Untimed.{IsLive}
use Rattle.sd_base.proofs.EqualShapesRepeat.{shape-read}
use Rattle.sd_base.proofs.EndsDecideCounts.{early_at, ended_at}
use Rattle.sd_base.proofs.ElementsKeepPlaces.{entry-le-sum}
use Rattle.sd_base.proofs.LawfulIsRegular.{regular}
use Rattle.loops.specs.LoopAnswers.{FirstDiffer}
use Rattle.loops.proofs.RanksRise.{rank-rises}
use Rattle.lasso.proofs.EventsGoOn.{loop-or-differ, numbered}
use Rattle.lasso.proofs.LagsStayBounded.{lead, running, standing}
use Rattle.lasso.proofs.TwoShareValue.{AreTwoAlike, two-alike}
use Rattle.lasso.proofs.DigitsTellLists.{AreDigits}
use Rattle.lasso.proofs.ShapeNumbers.{IsSmallShape, map-digits, number-small, range-digits, range-rows, same-number, shape_number, shape_numbers}

module _ (net : Net) (laws : Lawful net) (fed : HasInputs net) (strong : IsStronglyConnected net) where
  -- at most so many firings of an actor run at a time, and so many tokens stand on a channel
  most_running : ℕ
  most_running = (2 + NET_TOKENS + (lead net laws fed strong).0) * ROUND

  most_standing : ℕ
  most_standing = NET_TOKENS + ((lead net laws fed strong).0 + 1) * (ROUND * RATE)

  pub base : ℕ
  base = most_standing + sum (map length net.times) + TIME + 2

  pub most : ℕ
  most = most_running + length net.channels + length net.times

  short-time : (a k : ℕ) → a < length net.times → time_of net a k ≤ TIME
  short-time a k actor = laws.short_times a (k % phases_at net a) actor (mod-lt k (laws.some_phase a actor))

  tokens-small : (t : ℕ) → AreDigits base (map (tokens_of net t (earliest net (suc t))) net.channels)
  unfolding base most_standing
  tokens-small t = map-digits base (tokens_of net t (earliest net (suc t))) net.channels nowhere (λ k below. omega (arith, standing net laws fed strong t k below))

  phases-small : (t : ℕ) → AreDigits base (shape_of net t (earliest net (suc t))).phases
  unfolding base
  phases-small t = range-digits base (λ a. count_of (earliest net (suc t)) a % phases_at net a) 0 (length net.times) (λ a from below.
      let actor : a < length net.times = omega (arith, below) in
      let rest : count_of (earliest net (suc t)) a % phases_at net a < phases_at net a = mod-lt (count_of (earliest net (suc t)) a) (laws.some_phase a actor) in
      let part : slice_index (map length net.times) a ≤ sum (map length net.times) = entry-le-sum (map length net.times) a in
      let same : slice_index (map length net.times) a ≡ phases_at net a = get_or-map length net.times a [] 0 actor in
      omega (arith, rest, part, same))

  row-small : (t a : ℕ) → a < length net.times → AreDigits base (remaining_of net t (earliest net (suc t)) a) × (length (remaining_of net t (earliest net (suc t)) a) ≤ most)
  unfolding base most most_running
  row-small t a actor =
      let s = earliest net (suc t) in
      let many : length (remaining_of net t (earliest net (suc t)) a) ≡ count_of (earliest net (suc t)) a - ended_at net t a =
      length-map-range_with_len (λ (k : ℕ). end_of net (earliest net (suc t)) a k - t) (ended_at net t a) (count_of (earliest net (suc t)) a - ended_at net t a) in (
        range-digits base (λ k. end_of net (earliest net (suc t)) a k - t) (ended_at net t a) (count_of (earliest net (suc t)) a - ended_at net t a) (λ k after before.
            let below : k < count_of (earliest net (suc t)) a = omega (arith, after, before) in
            let soon : start_of (earliest net (suc t)) a k < suc t = (early_at net (regular net laws) fed (suc t)).before a k below in
            omega (arith, soon, short-time a k actor)),
        omega (arith, many, running net laws fed strong t a actor),
      )

  small-here : (t : ℕ) → IsSmallShape base most (shape_of net t (earliest net (suc t)))
  unfolding most
  small-here t = record {
    tokens = tokens-small t;
    phases = phases-small t;
    remaining = range-rows base most (remaining_of net t (earliest net (suc t))) 0 (length net.times) (λ a from below. row-small t a (omega (arith, below)));
    many_tokens = omega (arith, length-map net.channels (tokens_of net t (earliest net (suc t))));
    many_phases = omega (arith, length-map-range_with_len (λ (a : ℕ). count_of (earliest net (suc t)) a % phases_at net a) 0 (length net.times));
    many_rows = omega (arith, length-map-range_with_len (remaining_of net t (earliest net (suc t))) 0 (length net.times));
  }

  pub small-shape : (t : ℕ) → IsSmallShape base most (shape_at net t)
  small-shape t = subst (IsSmallShape base most) (sym (shape-read net t)) (small-here t)

  some-base : 1 ≤ base
  unfolding base
  some-base = omega arith

  module _ (live : IsLive net) where
    event : ℕ → ℕ
    event n = (numbered net laws fed live n).0

    number : ℕ → ℕ
    number n = shape_number base most (shape_at net (event n))

    -- among more events than there are shapes two have the same
    pub loop-closes : (entry : ℕ) × (period : ℕ) × IsLoop net entry period
    unfolding event number
    loop-closes = step (loop-or-differ net laws fed live (shape_numbers base most + 1))
      where
        step : FirstDiffer net (shape_numbers base most + 1) ⊎ ((entry : ℕ) × (period : ℕ) × IsLoop net entry period × (events_by net (entry + period) ≤ shape_numbers base most + 1))
            → (entry : ℕ) × (period : ℕ) × IsLoop net entry period
        step (inr (entry, period, loop, few)) = (entry, period, loop)
        step (inl differ) = absurd (
            let two : AreTwoAlike number (shape_numbers base most + 1) = two-alike (shape_numbers base most) (shape_numbers base most + 1) number
            (λ n below. number-small base most (shape_at net (event n)) some-base (small-shape (event n))) (omega arith) in
            let first = numbered net laws fed live two.first in
            let second = numbered net laws fed live two.second in
            let same : shape_at net first.0 ≡ shape_at net second.0 = same-number base most (shape_at net first.0) (shape_at net second.0) some-base (small-shape first.0) (small-shape second.0) two.same in
            let order : first.0 < second.0 = ⊎_elim
            (λ (less : first.0 < second.0). less)
            (λ (no_less : second.0 ≤ first.0). absurd (omega (arith, rank-rises net second.0 first.0 no_less, first.2, second.2, two.order)))
            (cases_lt first.0 second.0) in
            differ first.0 second.0 first.1 second.1 order (omega (arith, second.2, two.within)) same)
