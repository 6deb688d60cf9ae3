-- In a live net events go on, so it is decided whether the shapes of the first ones differ.
use Rattle.std.proofs.Common.{◌≡◌, ◌≢◌, ℕ, zero, suc, ◌+◌, ◌-◌, ◌≤◌, ◌<◌, ◌⊎◌, true, false, length, inl, inr, ⊎_elim, sym, refl, ◌∙◌, arith}
use Rattle.std.proofs.lemmas.Bool.{cases_lt, cases_eq, cases_Bool, false≢true}
use Rattle.std.proofs.Math.Numerals.{lt_of_le_of_ne}
use Rattle.sd_base.specs.Net.{Net}
use Rattle.sd_base.specs.Schedules.{HasInputs, count_of, start_of, end_of}
use Rattle.sd_base.specs.SelfTimed.{earliest, IsEvent, is_event, events_by, shape_at, starts_by}
use Rattle.sd_base.specs.Untimed.{IsLive}
use Rattle.sd_base.specs.Lawful.{Lawful}
use Rattle.sd_base.specs.Rates.{IsLoop}
use Rattle.sd_base.proofs.LawfulIsRegular.{regular, wired, balanced}
use Rattle.sd_base.proofs.EndsDecideCounts.{early_at, ended_at, ended-at-is, full-along, full-at}
use Rattle.sd_base.proofs.EndsAreEvents.{event-tells}
use Rattle.sd_base.proofs.LiveNetsGoOn.{live-never-stuck}
use Rattle.sd_base.proofs.StartsMeetEnds.{earliest-within}
use Rattle.selftimed.specs.Moves.{IsNextEvent}
use Rattle.selftimed.specs.declared.shape.Shape.{Shape}
use Rattle.loops.specs.LoopAnswers.{FirstDiffer, IsTooManyStarts, PassesStarts}
use Rattle.loops.proofs.RanksRise.{event-test, rank-first, rank-rises, rank-grows, rank-orders, rank-after, starts-rise}
use Rattle.lasso.proofs.AlikeShapesAreEqual.{alike, alike-tells, alike-holds}

-- the shape that stands at a moment
abbrev standing : Net → ℕ → Shape
standing net t = record { tokens = (shape_at net t).tokens; phases = (shape_at net t).phases; remaining = (shape_at net t).remaining }

-- an event before m has the shape at t, or none has
Among : Net → ℕ → ℕ → Type 0
Among net t m = ((u : ℕ) × (u < m) × IsEvent net u × (shape_at net u ≡ shape_at net t)) ⊎ ((u : ℕ) → u < m → IsEvent net u → shape_at net u ≢ shape_at net t)

module _ (net : Net) (laws : Lawful net) (fed : HasInputs net) (live : IsLive net) where
  -- one of the first n actors has a firing that runs on, or all of their firings have ended
  Runs : ℕ → ℕ → Type 0
  Runs m n =
      ((a : ℕ) × (ended_at net m a < count_of (earliest net (suc m)) a)) ⊎ ((a : ℕ) → a < n → ended_at net m a ≡ count_of (earliest net (suc m)) a)

  runs : (m n : ℕ) → Runs m n
  unfolding Runs
  runs m zero = inr (λ a below. absurd (omega arith))
  runs m (suc n) = step (runs m n) (cases_lt (ended_at net m n) (count_of (earliest net (suc m)) n))
    where
      step : Runs m n → (ended_at net m n < count_of (earliest net (suc m)) n) ⊎ (count_of (earliest net (suc m)) n ≤ ended_at net m n) → Runs m (suc n)
      step (inl found) test = inl found
      step (inr done) (inl on) = inl (n, on)
      step (inr done) (inr all) = inr (λ a below. ⊎_elim
          (λ (last : a ≡ n). rw last (omega (arith, (ended-at-is net (regular net laws) fed m n).within)))
          (λ (apart : a ≡ n → ⊥). done a (omega arith))
          (cases_eq a n))

  runs-on : (m : ℕ) → (a : ℕ) × (ended_at net m a < count_of (earliest net (suc m)) a)
  unfolding Runs
  runs-on m = step (runs m (length net.times))
    where
      step : Runs m (length net.times) → (a : ℕ) × (ended_at net m a < count_of (earliest net (suc m)) a)
      step (inl found) = found
      step (inr done) = absurd (live-never-stuck net (wired net laws) (balanced net laws) laws.some_actor live (count_of (earliest net (suc m)))
          (full-along net (ended_at net m) (count_of (earliest net (suc m))) (count_of (earliest net (suc m))) (count_of (earliest net (suc m))) (wired net laws) done (λ a actor. refl) (full-at net (regular net laws) fed m)))

  event-ahead : (m : ℕ) → (t : ℕ) × (m < t) × IsEvent net t
  event-ahead m =
      let found = runs-on m in
      let a : ℕ = found.0 in
      let k : ℕ = ended_at net m found.0 in
      let later : m < end_of net (earliest net (suc m)) found.0 (ended_at net m found.0) = (ended-at-is net (regular net laws) fed m found.0).going (ended_at net m found.0) (omega arith) found.1 in
      let kept = earliest-within net (suc m) (end_of net (earliest net (suc m)) a k) (earliest net (suc m)) (earliest net (end_of net (earliest net (suc m)) a k))
      (early_at net (regular net laws) fed (suc m)) (early_at net (regular net laws) fed (end_of net (earliest net (suc m)) a k)) (omega arith) a k found.1 in
      let same : start_of (earliest net (end_of net (earliest net (suc m)) a k)) a k ≡ start_of (earliest net (suc m)) a k = kept.1 in
      (end_of net (earliest net (suc m)) a k, later, inr (a, k, kept.0, omega arith))

  -- the next event is among j moments, or none of them is an event
  Next : ℕ → ℕ → Type 0
  Next m j = ((t : ℕ) × IsNextEvent net m t) ⊎ ((x : ℕ) → m < x → x ≤ j + m → IsEvent net x → ⊥)

  next-among : (m j : ℕ) → Next m j
  unfolding Next
  next-among m zero = inr (λ x after upto event. absurd (omega arith))
  next-among m (suc j) = step (next-among m j) (cases_Bool (is_event net (suc j + m)))
    where
      step : Next m j → (is_event net (suc j + m) ≡ true) ⊎ (is_event net (suc j + m) ≡ false) → Next m (suc j)
      step (inl found) test = inl found
      step (inr quiet) (inl event) = inl (suc j + m, record { later = omega arith; event = event-tells net (suc j + m) event; quiet = λ u after before. quiet u after (omega arith) })
      step (inr quiet) (inr none) = inr (λ x after upto event. ⊎_elim
          (λ (last : x ≡ suc j + m). absurd (false≢true (sym none ∙ rw (← last) (event-test net laws fed x event))))
          (λ (apart : x ≡ suc j + m → ⊥). quiet x after (omega arith) event)
          (cases_eq x (suc j + m)))

  next-event : (m : ℕ) → (t : ℕ) × IsNextEvent net m t
  unfolding Next
  next-event m = step (event-ahead m)
    where
      step : (t : ℕ) × (m < t) × IsEvent net t → (t : ℕ) × IsNextEvent net m t
      step (t, later, event) = ⊎_elim
          (λ (found : (u : ℕ) × IsNextEvent net m u). found)
          (λ (none : (x : ℕ) → m < x → x ≤ (t - m) + m → IsEvent net x → ⊥). absurd (none t later (omega arith) event))
          (next-among m (t - m))

  -- each number is that of an event
  pub numbered : (n : ℕ) → (t : ℕ) × IsEvent net t × (events_by net t ≡ n + 1)
  numbered zero = (0, inl refl, omega (arith, rank-first net))
  numbered (suc n) = step (numbered n)
    where
      step : (t : ℕ) × IsEvent net t × (events_by net t ≡ n + 1) → (t : ℕ) × IsEvent net t × (events_by net t ≡ suc n + 1)
      step (t, event, number) = let next = next-event t in (next.0, next.1.event, omega (arith, rank-after net laws fed t next.0 next.1))

  among : (t m : ℕ) → Among net t m
  unfolding Among
  among t zero = inr (λ u below event same. absurd (omega arith))
  among t (suc m) = step (among t m) (cases_Bool (is_event net m)) (cases_Bool (alike (standing net m) (standing net t)))
    where
      step : Among net t m → (is_event net m ≡ true) ⊎ (is_event net m ≡ false) → (alike (standing net m) (standing net t) ≡ true) ⊎ (alike (standing net m) (standing net t) ≡ false) → Among net t (suc m)
      step (inl found) event test = inl (found.0, omega (arith, found.1), found.2, found.3)
      step (inr none) (inl event) (inl here) = inl (m, omega arith, event-tells net m event, alike-tells (standing net m) (standing net t) here)
      step (inr none) (inl event) (inr other) = inr (λ u below at same. ⊎_elim
          (λ (last : u ≡ m). absurd (false≢true (sym other ∙ alike-holds (standing net m) (standing net t) (rw last at same))))
          (λ (apart : u ≡ m → ⊥). none u (omega arith) at same)
          (cases_eq u m))
      step (inr none) (inr quiet) test = inr (λ u below at same. ⊎_elim
          (λ (last : u ≡ m). absurd (false≢true (sym quiet ∙ rw last at (event-test net laws fed u at))))
          (λ (apart : u ≡ m → ⊥). none u (omega arith) at same)
          (cases_eq u m))

  -- the shapes of the first n events differ, or a loop closes among them
  Differs : ℕ → Type 0
  Differs n = FirstDiffer net n ⊎ ((entry : ℕ) × (period : ℕ) × IsLoop net entry period × (events_by net (entry + period) ≤ n))

  differs : (n : ℕ) → Differs n
  unfolding Differs Among
  differs zero = inl (λ t u one other less few same. absurd (omega (arith, rank-first net, rank-rises net 0 u (omega arith))))
  differs (suc n) = step (differs n) (numbered n)
    where
      step : Differs n → (t : ℕ) × IsEvent net t × (events_by net t ≡ n + 1) → Differs (suc n)
      step (inr (entry, period, loop, number)) next = inr (entry, period, loop, omega arith)
      step (inl differ) (t, event, number) = ⊎_elim
          (λ (found : (u : ℕ) × (u < t) × IsEvent net u × (shape_at net u ≡ shape_at net t)).
          let end : found.0 + (t - found.0) ≡ t = omega (arith, found.1) in
          inr (
            found.0,
            t - found.0,
            record {
              enters = found.2;
              repeats = rw end event;
              passes = omega (arith, found.1);
              same = rw end found.3;
              first = λ x y one other less soon. differ x y one other less (omega (arith, rank-grows net laws fed y t (rw end at soon) event));
            },
            rw end (omega arith),
          ))
          (λ (none : (u : ℕ) → u < t → IsEvent net u → shape_at net u ≢ shape_at net t).
          inl (λ x y one other less few same. ⊎_elim
          (λ (last : y ≡ t). none x (omega arith) one (rw last at same))
          (λ (apart : y ≡ t → ⊥). differ x y one other less (before y other few apart) same)
          (cases_eq y t)))
          (among t t)
        where
          before : (y : ℕ) → IsEvent net y → events_by net y ≤ suc n → (y ≡ t → ⊥) → events_by net y ≤ n
          before y other few apart =
              let le : y ≤ t = rank-orders net laws fed y t other (omega arith) in
              let less : y < t = lt_of_le_of_ne le apart in
              omega (arith, rank-grows net laws fed y t less event)

  pub loop-or-differ : (n : ℕ) → FirstDiffer net n ⊎ ((entry : ℕ) × (period : ℕ) × IsLoop net entry period × (events_by net (entry + period) ≤ n))
  unfolding Differs
  loop-or-differ n = differs n

  pub many-passes : (states : ℕ) → 1 ≤ states → IsTooManyStarts net states → PassesStarts net states
  unfolding Differs
  many-passes states some many = step (differs states) (numbered (states - 1))
    where
      step : Differs states → (t : ℕ) × IsEvent net t × (events_by net t ≡ states - 1 + 1) → PassesStarts net states
      step (inl differ) (t, event, number) =
          let whole : events_by net t ≡ states = omega arith in
          let number_there : events_by net many.last ≤ states = many.number in
          let more : 4000000 < starts_by net many.last = many.many in
          let order : many.last ≤ t = rank-orders net laws fed many.last t many.event (omega arith) in
          inl (differ, (t, event, whole, omega (arith, starts-rise net laws fed many.last t order)))
      step (inr (entry, period, loop, number)) next =
          let passes : 1 ≤ period = loop.passes in
          let more : 4000000 < starts_by net many.last = many.many in
          ⊎_elim
          (λ (sooner : entry + period < many.last). absurd (many.differ entry (entry + period) loop.enters loop.repeats (omega arith) sooner loop.same))
          (λ (past : many.last ≤ entry + period). inr (entry, period, loop, number, omega (arith, starts-rise net laws fed many.last (entry + period) past)))
          (cases_lt (entry + period) many.last)

  pub passes-many : (states : ℕ) → PassesStarts net states → IsTooManyStarts net states
  passes-many states (inl (differ, (last, event, number, many))) = record {
    last = last;
    event = event;
    number = omega arith;
    differ = λ t u one other less before. differ t u one other less (omega (arith, rank-grows net laws fed u last before event));
    many = many;
  }
  passes-many states (inr (entry, period, loop, number, many)) = record { last = entry + period; event = loop.repeats; number = number; differ = loop.first; many = many }
