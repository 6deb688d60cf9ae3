-- A way of needs that has come round a segment goes back by as many segments as fit.
use Rattle.std.proofs.Common.{◌≡◌, ℕ, zero, suc, ◌+◌, ◌-◌, ◌*◌, ◌≤◌, ◌<◌, List, [], ◌++◌, subst, sym, refl, ap, ◌∙◌, arith, mul-le-mul_right}
use Rattle.critical.specs.declared.cycle.FiringNo.{FiringNo}
use Rattle.critical.specs.declared.cycle.CycleStep.{CycleStep}
use Rattle.completion.specs.declared.counts.Part.{Part}
use Rattle.completion.specs.declared.timetable.Start.{Start}
use Rattle.completion.specs.declared.timetable.Timetable.{Timetable}
use Rattle.sd_base.specs.Net.{Net}
use Rattle.critical.specs.Cycles.{IsChain, last_of}
use Rattle.completion.proofs.TightSooner.{tight-both, tight-sooner}
use Rattle.completion.specs.Ways.{AreFirstTight, StartsAt, firing_time, one_in, sum_along, time_in}
use Rattle.completion.specs.inside.Timetables.{IsStart, IsTimetable, before_of, end_at, firing_of, moment_of, pass_of}
use Rattle.completion.specs.inside.Walks.{FitsTimes, IsSegment, IsWayTo, sum_before}
use Rattle.critical.proofs.ChainsSplitAndJoin.{chain-both, last-both}
use Rattle.completion.proofs.ChainSumsAddUp.{along-both, before-both}
use Rattle.completion.proofs.TimetablesTellStarts.{late-moment, moment-later, moment-starts}
use Rattle.completion.proofs.SegmentsComeAgain.{AllReach, Reaches, all-reach, chain-sooner, last-sooner, part-sooner, sooner, sooner_steps, sum-sooner, time-sooner}

-- a firing with another number
abbrev firing : ℕ → ℕ → FiringNo
firing a k = record { actor = a; number = k }

same-number : (a k n : ℕ) → k ≡ n → firing a k ≡ firing a n
same-number a k n same = ap (firing a) same

module _ (net : Net) (times : Timetable) (is : IsTimetable net times) (here kept : FiringNo) (p : ℕ) (segment : List CycleStep) (chain : IsChain net here segment) (ends : last_of here segment ≡ kept)
    (actor : kept.actor ≡ here.actor) (apart : kept.number ≡ here.number + p * pass_of times here.actor) where
  -- so many segments, the earliest first
  abbrev pub segments_of : ℕ → List CycleStep
  segments_of zero = []
  segments_of (suc j) = sooner_steps times (suc j * p) segment ++ segments_of j

  start-sooner : sooner times (0 * p) here ≡ here
  start-sooner = same-number here.actor (here.number - 0 * p * pass_of times here.actor) here.number (omega arith)

  -- where a segment ends, the next one begins
  meets : (j : ℕ) → sooner times (suc j * p) kept ≡ sooner times (j * p) here
  meets j =
      let moved : sooner times (suc j * p) kept ≡ sooner times (suc j * p) (firing here.actor (here.number + p * pass_of times here.actor)) =
      ap (λ (x : FiringNo). sooner times (suc j * p) x) (ap (λ (a : ℕ). firing a kept.number) actor ∙ same-number here.actor kept.number (here.number + p * pass_of times here.actor) apart) in
      moved ∙ same-number here.actor (here.number + p * pass_of times here.actor - suc j * p * pass_of times here.actor) (here.number - j * p * pass_of times here.actor) (omega arith)

  ends-sooner : (j : ℕ) → last_of (sooner times (suc j * p) here) (sooner_steps times (suc j * p) segment) ≡ sooner times (j * p) here
  ends-sooner j = last-sooner times (suc j * p) here segment ∙ (ap (λ (x : FiringNo). sooner times (suc j * p) x) ends ∙ meets j)

  segments-end : (j : ℕ) → last_of (sooner times (j * p) here) (segments_of j) ≡ here
  segments-end zero = start-sooner
  segments-end (suc j) =
      last-both net (sooner times (suc j * p) here) (sooner_steps times (suc j * p) segment) (segments_of j)
      ∙ (ap (λ (x : FiringNo). last_of x (segments_of j)) (ends-sooner j) ∙ segments-end j)

  segments-chain : (j : ℕ) → ((i : ℕ) → i ≤ j → AllReach net times (i * p) here segment) → IsChain net (sooner times (j * p) here) (segments_of j)
  segments-chain zero all = tt
  segments-chain (suc j) all =
      chain-both net (sooner times (suc j * p) here) (sooner_steps times (suc j * p) segment) (segments_of j)
      (chain-sooner net times is (suc j * p) here segment chain (all (suc j) (omega arith)))
      (subst (λ (x : FiringNo). IsChain net x (segments_of j)) (sym (ends-sooner j)) (segments-chain j (λ i le. all i (omega arith))))

  segments-tight : (j : ℕ) → ((i : ℕ) → i ≤ j → AreFirstTight net (sooner times (i * p) here) (sooner_steps times (i * p) segment)) → AreFirstTight net (sooner times (j * p) here) (segments_of j)
  segments-tight zero all = tt
  segments-tight (suc j) all =
      tight-both net (sooner times (suc j * p) here) (sooner_steps times (suc j * p) segment) (segments_of j)
      (all (suc j) (omega arith))
      (subst (λ (x : FiringNo). AreFirstTight net x (segments_of j)) (sym (ends-sooner j)) (segments-tight j (λ i le. all i (omega arith))))

  segments-sum : (f : FiringNo → ℕ) → ((q : ℕ) (x : FiringNo) → Reaches net times q x → f (sooner times q x) ≡ f x) → (j : ℕ) → ((i : ℕ) → i ≤ j → AllReach net times (i * p) here segment) →
      sum_before f (sooner times (j * p) here) (segments_of j) ≡ j * sum_before f here segment
  segments-sum f same zero all = omega arith
  segments-sum f same (suc j) all =
      let both : sum_before f (sooner times (suc j * p) here) (sooner_steps times (suc j * p) segment ++ segments_of j)
      ≡ sum_before f (sooner times (suc j * p) here) (sooner_steps times (suc j * p) segment) + sum_before f (last_of (sooner times (suc j * p) here) (sooner_steps times (suc j * p) segment)) (segments_of j) =
      before-both f (sooner times (suc j * p) here) (sooner_steps times (suc j * p) segment) (segments_of j) in
      let one : sum_before f (sooner times (suc j * p) here) (sooner_steps times (suc j * p) segment) ≡ sum_before f here segment = sum-sooner net times is f (suc j * p) (same (suc j * p)) here segment (all (suc j) (omega arith)) in
      let rest : sum_before f (last_of (sooner times (suc j * p) here) (sooner_steps times (suc j * p) segment)) (segments_of j) ≡ j * sum_before f here segment =
      ap (λ (x : FiringNo). sum_before f x (segments_of j)) (ends-sooner j) ∙ segments-sum f same j (λ i le. all i (omega arith)) in
      omega (arith, both, one, rest)

-- a way from a firing so many segments before another one, through all of them
pub record IsWayWithSegments (net : Net) (last new here : Start) (segments : ℕ) (segment way : List CycleStep) : Type 0 where
  pub steps : List CycleStep
  pub chain : IsChain net (firing_of new) steps
  pub ends : last_of (firing_of new) steps ≡ firing_of last
  pub tight : AreFirstTight net (firing_of new) steps
  pub counts : (a : ℕ) → sum_along (one_in a) (firing_of new) steps ≡ segments * sum_before (one_in a) (firing_of here) segment + sum_along (one_in a) (firing_of here) way
  pub times : (a : ℕ) → sum_along (time_in net a) (firing_of new) steps ≡ segments * sum_before (time_in net a) (firing_of here) segment + sum_along (time_in net a) (firing_of here) way
  pub all : sum_along (firing_time net) (firing_of new) steps ≡ segments * sum_before (firing_time net) (firing_of here) segment + sum_along (firing_time net) (firing_of here) way
  pub time : new.moment + sum_along (firing_time net) (firing_of new) steps ≡ end_at net last

module _ (net : Net) (times : Timetable) (is : IsTimetable net times) (last here kept new : Start) (segments : ℕ) (parts segment : List Part) (start : IsStart net times here) (start_kept : IsStart net times kept)
    (way : IsWayTo net last here parts) (turn : IsSegment net here kept segment) (fits : FitsTimes times here kept segments) where
  -- the firing so many segments before lies after the entry
  sooner-after : before_of times here.actor ≤ here.number - segments * (fits.passes * pass_of times here.actor)
  sooner-after = omega (arith, fits.fits)

  starts-here : StartsAt net here.actor here.number here.moment
  starts-here = subst (λ (m : ℕ). StartsAt net here.actor here.number m) (sym start.moment) (moment-starts net times is here.actor here.number start.actor)

  starts-kept : StartsAt net kept.actor kept.number kept.moment
  starts-kept = subst (λ (m : ℕ). StartsAt net kept.actor kept.number m) (sym start_kept.moment) (moment-starts net times is kept.actor kept.number start_kept.actor)

  late : (i : ℕ) → i ≤ segments → times.table.entry + i * fits.passes * times.table.period < here.moment
  late i le =
      let less : i * (fits.passes * pass_of times here.actor) ≤ segments * (fits.passes * pass_of times here.actor) = mul-le-mul_right (fits.passes * pass_of times here.actor) le in
      late-moment net times is (i * fits.passes) here.actor here.number here.moment start.actor starts-here (omega (arith, fits.fits))

  reach-all : (i : ℕ) → i ≤ segments → AllReach net times (i * fits.passes) (firing_of here) turn.steps
  reach-all i le = all-reach net times is (i * fits.passes) (firing_of here) turn.steps turn.chain start.actor here.moment kept.moment starts-here
      (subst (λ (x : FiringNo). StartsAt net x.actor x.number kept.moment) (sym turn.ends) starts-kept) (late i le)

  tight-all : (i : ℕ) → i ≤ segments → AreFirstTight net (sooner times (i * fits.passes) (firing_of here)) (sooner_steps times (i * fits.passes) turn.steps)
  tight-all i le = tight-sooner net times is (i * fits.passes) (firing_of here) turn.steps turn.chain turn.tight start.actor here.moment kept.moment starts-here
      (subst (λ (x : FiringNo). StartsAt net x.actor x.number kept.moment) (sym turn.ends) starts-kept) (late i le)

  -- a segment takes as long as its passes
  segment-time : sum_before (firing_time net) (firing_of here) turn.steps ≡ fits.passes * times.table.period
  segment-time =
      let from : before_of times here.actor ≤ here.number = omega (arith, fits.fits) in
      let on : moment_of times here.actor (here.number + fits.passes * pass_of times here.actor) ≡ moment_of times here.actor here.number + fits.passes * times.table.period = moment-later net times is here.actor here.number fits.passes start.actor from in
      let same : moment_of times kept.actor kept.number ≡ moment_of times here.actor (here.number + fits.passes * pass_of times here.actor) =
      ap (λ (a : ℕ). moment_of times a kept.number) fits.actor ∙ ap (moment_of times here.actor) fits.apart in
      omega (arith, turn.time, start.moment, start_kept.moment)

  -- and starts so many segments earlier
  sooner-time : moment_of times here.actor (here.number - segments * (fits.passes * pass_of times here.actor)) + segments * (fits.passes * times.table.period) ≡ here.moment
  sooner-time =
      let on : moment_of times here.actor (here.number - segments * (fits.passes * pass_of times here.actor) + segments * fits.passes * pass_of times here.actor)
      ≡ moment_of times here.actor (here.number - segments * (fits.passes * pass_of times here.actor)) + segments * fits.passes * times.table.period =
      moment-later net times is here.actor (here.number - segments * (fits.passes * pass_of times here.actor)) (segments * fits.passes) start.actor sooner-after in
      let place : here.number - segments * (fits.passes * pass_of times here.actor) + segments * fits.passes * pass_of times here.actor ≡ here.number = omega (arith, fits.fits) in
      let same : moment_of times here.actor (here.number - segments * (fits.passes * pass_of times here.actor) + segments * fits.passes * pass_of times here.actor) ≡ moment_of times here.actor here.number = ap (moment_of times here.actor) place in
      omega (arith, start.moment)

  pub way-with_segments : new.actor ≡ here.actor → new.number ≡ here.number - segments * (fits.passes * pass_of times here.actor) → IsStart net times new → IsWayWithSegments net last new here segments turn.steps way.steps
  way-with_segments actor number start_new =
      let from : firing_of new ≡ sooner times (segments * fits.passes) (firing_of here) =
      ap (λ (a : ℕ). firing a new.number) actor ∙ same-number here.actor new.number (here.number - segments * fits.passes * pass_of times here.actor) (omega (arith, number)) in
      let all = segments_of net times is (firing_of here) (firing_of kept) fits.passes turn.steps turn.chain turn.ends fits.actor fits.apart segments in
      let back : last_of (sooner times (segments * fits.passes) (firing_of here)) all ≡ firing_of here = segments-end net times is (firing_of here) (firing_of kept) fits.passes turn.steps turn.chain turn.ends fits.actor fits.apart segments in
      let chained : IsChain net (sooner times (segments * fits.passes) (firing_of here)) (all ++ way.steps) =
      chain-both net (sooner times (segments * fits.passes) (firing_of here)) all way.steps
      (segments-chain net times is (firing_of here) (firing_of kept) fits.passes turn.steps turn.chain turn.ends fits.actor fits.apart segments reach-all)
      (subst (λ (x : FiringNo). IsChain net x way.steps) (sym back) way.chain) in
      let sums : (f : FiringNo → ℕ) → ((q : ℕ) (x : FiringNo) → Reaches net times q x → f (sooner times q x) ≡ f x) →
      sum_along f (firing_of new) (all ++ way.steps) ≡ segments * sum_before f (firing_of here) turn.steps + sum_along f (firing_of here) way.steps =
      λ f same.
      let both : sum_along f (sooner times (segments * fits.passes) (firing_of here)) (all ++ way.steps) ≡ sum_before f (sooner times (segments * fits.passes) (firing_of here)) all + sum_along f (last_of (sooner times (segments * fits.passes) (firing_of here)) all) way.steps =
      along-both f (sooner times (segments * fits.passes) (firing_of here)) all way.steps in
      let front : sum_before f (sooner times (segments * fits.passes) (firing_of here)) all ≡ segments * sum_before f (firing_of here) turn.steps =
      segments-sum net times is (firing_of here) (firing_of kept) fits.passes turn.steps turn.chain turn.ends fits.actor fits.apart f same segments reach-all in
      let rest : sum_along f (last_of (sooner times (segments * fits.passes) (firing_of here)) all) way.steps ≡ sum_along f (firing_of here) way.steps = ap (λ (x : FiringNo). sum_along f x way.steps) back in
      ap (λ (x : FiringNo). sum_along f x (all ++ way.steps)) from ∙ omega (arith, both, front, rest) in
      let at_new : new.moment ≡ moment_of times here.actor (here.number - segments * (fits.passes * pass_of times here.actor)) =
      start_new.moment ∙ (ap (λ (a : ℕ). moment_of times a new.number) actor ∙ ap (moment_of times here.actor) number) in
      let segments_time : segments * sum_before (firing_time net) (firing_of here) turn.steps ≡ segments * (fits.passes * times.table.period) = ap (λ (x : ℕ). segments * x) segment-time in
      record {
        steps = all ++ way.steps;
        chain = subst (λ (x : FiringNo). IsChain net x (all ++ way.steps)) (sym from) chained;
        ends = ap (λ (x : FiringNo). last_of x (all ++ way.steps)) from ∙ (last-both net (sooner times (segments * fits.passes) (firing_of here)) all way.steps ∙ (ap (λ (x : FiringNo). last_of x way.steps) back ∙ way.ends));
        tight = subst (λ (x : FiringNo). AreFirstTight net x (all ++ way.steps)) (sym from) (tight-both net (sooner times (segments * fits.passes) (firing_of here)) all way.steps
            (segments-tight net times is (firing_of here) (firing_of kept) fits.passes turn.steps turn.chain turn.ends fits.actor fits.apart segments tight-all)
            (subst (λ (x : FiringNo). AreFirstTight net x way.steps) (sym back) way.tight));
        counts = λ a. sums (one_in a) (λ q x reaches. refl);
        times = λ a. sums (time_in net a) (part-sooner net times is a);
        all = sums (firing_time net) (time-sooner net times is);
        time = omega (arith, sums (firing_time net) (time-sooner net times is), way.time, sooner-time);
      }
