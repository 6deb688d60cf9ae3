-- A net that comes round a loop has a need cycle with the loop's rounds per time.
use Rattle.std.proofs.Common.{◌≡◌, ℕ, suc, ◌+◌, ◌*◌, ◌%◌, ◌≤◌, ◌<◌, ⊎_elim, List, length, subst, sym, refl, ap, ◌∙◌, arith, mul-le-mul, mod-lt}
use Rattle.std.proofs.lemmas.Bool.{cases_lt}
use Rattle.std.specs.Prelude.{slice_index}
use Rattle.std.proofs.lemmas.Nat.{same_from_place}
use Rattle.critical.specs.declared.cycle.FiringNo.{FiringNo}
use Rattle.sd_base.specs.Net.{Net}
use Rattle.sd_base.specs.Schedules.{count_of, start_of, HasInputs}
use Rattle.sd_base.specs.SelfTimed.{earliest}
use Rattle.sd_base.specs.Lawful.{Lawful}
use Rattle.sd_base.specs.Rates.{IsLoopTable}
use Rattle.sd_base.specs.Futures.{Repeats}
use Rattle.sd_base.proofs.LawfulIsRegular.{regular, balanced}
use Rattle.sd_base.proofs.EndsDecideCounts.{early_at}
use Rattle.sd_base.proofs.FiringOrdersEnd.{sum_to}
use Rattle.sd_base.proofs.LoopRates.{sum_to-part, table-repeats}
use Rattle.sd_base.proofs.FiringsKeepOrder.{is_actor}
use Rattle.sd_base.proofs.ByteTestsDecide.{pair-small}
use Rattle.critical.specs.Cycles.{IsChain, last_of, time_along}
use Rattle.critical.specs.Bounds.{HasCriticalCycle}
use Rattle.critical.proofs.FiringsStandApart.{some-time}
use Rattle.critical.proofs.TwoNumbersAgree.{agree}
use Rattle.critical.specs.inside.Trails.{steps_of}
use Rattle.critical.proofs.TrailsLeadBack.{Trail, start_at, trail, trail-chain, trail-last, trail-time, closes}

module _ (net : Net) (laws : Lawful net) (fed : HasInputs net) (entry period rounds : ℕ) (again : Repeats net entry (entry + period) (λ a. rounds * slice_index net.round a)) (some : 1 ≤ rounds) where
  -- the firings of all actors in a pass
  abbrev all_of : ℕ
  all_of = sum_to (λ a. rounds * slice_index net.round a) (length net.times)

  some-pass : (a : ℕ) → a < length net.times → 1 ≤ rounds * slice_index net.round a
  some-pass a actor = mul-le-mul some ((balanced net laws).fires a actor)

  -- a firing's actor and place in a pass, as one number
  place_of : FiringNo → ℕ
  place_of x = x.actor * all_of + x.number % (rounds * slice_index net.round x.actor)

  place-in : (x : FiringNo) → x.actor < length net.times → x.number % (rounds * slice_index net.round x.actor) < all_of
  place-in x actor =
      let part : rounds * slice_index net.round x.actor ≤ all_of = sum_to-part (λ a. rounds * slice_index net.round a) (length net.times) x.actor actor in
      let below : x.number % (rounds * slice_index net.round x.actor) < rounds * slice_index net.round x.actor = mod-lt x.number (some-pass x.actor actor) in
      omega arith

  module _ (u : ℕ) (long : entry < u) (x : FiringNo) (way : Trail net (earliest net u) entry (length net.times * all_of) x) where
    actor-at : (m : ℕ) → m ≤ length net.times * all_of → (way.at m).actor < length net.times
    actor-at m le = is_actor net (earliest net u) (way.at m).actor (way.at m).number (early_at net (regular net laws) fed u).admissible (way.there m le)

    -- a trail through two firings at one place of a pass
    from-places : (p d : ℕ) → p + suc d ≤ length net.times * all_of → (way.at (p + suc d)).actor ≡ (way.at p).actor →
        (way.at (p + suc d)).number % (rounds * slice_index net.round (way.at (p + suc d)).actor) ≡ (way.at p).number % (rounds * slice_index net.round (way.at p).actor) → HasCriticalCycle net period rounds
    from-places p d within same_actor same_place =
        let chain : IsChain net (way.at (p + suc d)) (steps_of way.at way.channel p (suc d)) = trail-chain net (earliest net u) entry (length net.times * all_of) x way p (suc d) within in
        let last : last_of (way.at (p + suc d)) (steps_of way.at way.channel p (suc d)) ≡ way.at p = trail-last net (earliest net u) entry (length net.times * all_of) x way p (suc d) in
        let spans : start_at (earliest net u) (way.at (p + suc d)) + time_along net (way.at (p + suc d)) (steps_of way.at way.channel p (suc d)) ≡ start_at (earliest net u) (way.at p) = trail-time net (earliest net u) entry (length net.times * all_of) x way p (suc d) within in
        let takes : 1 ≤ time_along net (way.at (p + suc d)) (steps_of way.at way.channel p (suc d)) = some-time net laws (way.at (p + suc d)) (steps_of way.at way.channel p (suc d)) (omega arith) chain in
        let there : (way.at p).number < count_of (earliest net u) (way.at p).actor = way.there p (omega arith) in
        let found = closes net laws fed entry period rounds again u (way.at (p + suc d)).actor long (way.at (p + suc d)).number (way.at p).number
        (time_along net (way.at (p + suc d)) (steps_of way.at way.channel p (suc d)))
        (subst (λ (a : ℕ). (way.at p).number < count_of (earliest net u) a) (sym same_actor) there) (way.there (p + suc d) within) (way.late (p + suc d) within)
        (spans ∙ ap (λ (a : ℕ). start_of (earliest net u) a (way.at p).number) (sym same_actor)) takes
        (subst (λ (a : ℕ). (way.at (p + suc d)).number % (rounds * slice_index net.round (way.at (p + suc d)).actor) ≡ (way.at p).number % (rounds * slice_index net.round a)) (sym same_actor) same_place) in
        let number : (way.at p).number ≡ (way.at (p + suc d)).number + found.0 * (rounds * slice_index net.round (way.at (p + suc d)).actor) = found.2 in
        let time : time_along net (way.at (p + suc d)) (steps_of way.at way.channel p (suc d)) ≡ found.0 * period = found.3 in
        let turned : 1 ≤ found.0 * rounds = mul-le-mul found.1 some in
        record {
          cycle = record { time = time_along net (way.at (p + suc d)) (steps_of way.at way.channel p (suc d)); rounds = found.0 * rounds; first = way.at (p + suc d); steps = steps_of way.at way.channel p (suc d) };
          holds = record {
            some_step = omega arith;
            some_round = turned;
            chain = chain;
            actor = ap (λ (y : FiringNo). y.actor) last ∙ sym same_actor;
            number = ap (λ (y : FiringNo). y.number) last ∙ omega arith;
            time = refl;
          };
          rate = omega (arith, ap (λ (k : ℕ). rounds * k) time);
        }

    pub from-trail : HasCriticalCycle net period rounds
    unfolding place_of
    from-trail =
        let found = agree (length net.times * all_of) (λ m. place_of (way.at m)) (λ m below. pair-small (way.at m).actor ((way.at m).number % (rounds * slice_index net.round (way.at m).actor)) all_of (length net.times) (actor-at m (omega arith)) (place-in (way.at m) (actor-at m (omega arith)))) in
        let here = actor-at found.p (omega (arith, found.within)) in
        let there = actor-at (found.p + suc found.d) found.within in
        let one = place-in (way.at found.p) here in
        let other = place-in (way.at (found.p + suc found.d)) there in
        let place = same_from_place (way.at found.p).actor ((way.at found.p).number % (rounds * slice_index net.round (way.at found.p).actor)) (way.at (found.p + suc found.d)).actor ((way.at (found.p + suc found.d)).number % (rounds * slice_index net.round (way.at (found.p + suc found.d)).actor)) all_of one other found.same in
        from-places found.p found.d found.within (sym place.0) (sym place.1)

  -- a firing that starts late enough
  late-firing : (d : ℕ) → (count_of (earliest net (entry + d + 1)) 0 < count_of (earliest net (entry + period + d + 1)) 0)
      × (entry + d < start_of (earliest net (entry + period + d + 1)) 0 (count_of (earliest net (entry + d + 1)) 0))
  late-firing d =
      let pass : 1 ≤ rounds * slice_index net.round 0 = some-pass 0 laws.some_actor in
      let counts : count_of (earliest net (entry + period + d + 1)) 0 ≡ count_of (earliest net (entry + d + 1)) 0 + rounds * slice_index net.round 0 = again.counts d 0 in
      let there : count_of (earliest net (entry + d + 1)) 0 < count_of (earliest net (entry + period + d + 1)) 0 = omega arith in (
        there,
        ⊎_elim (λ (h : entry + d < start_of (earliest net (entry + period + d + 1)) 0 (count_of (earliest net (entry + d + 1)) 0)). h)
            (λ (soon : start_of (earliest net (entry + period + d + 1)) 0 (count_of (earliest net (entry + d + 1)) 0) ≤ entry + d). absurd (
            let early : count_of (earliest net (entry + d + 1)) 0 < count_of (earliest net (entry + d + 1)) 0 = ((early_at net (regular net laws) fed (entry + d + 1)).least (earliest net (entry + period + d + 1)) (early_at net (regular net laws) fed (entry + period + d + 1)).admissible 0 (count_of (earliest net (entry + d + 1)) 0) there (omega arith)).0 in omega arith))
            (cases_lt (entry + d) (start_of (earliest net (entry + period + d + 1)) 0 (count_of (earliest net (entry + d + 1)) 0))),
      )

  pub critical-cycle : HasCriticalCycle net period rounds
  critical-cycle =
      let late = late-firing (length net.times * all_of * 1000000000) in
      let x : FiringNo = record { actor = 0; number = count_of (earliest net (entry + length net.times * all_of * 1000000000 + 1)) 0 } in
      from-trail (entry + period + length net.times * all_of * 1000000000 + 1) (omega arith) x
      (trail net laws fed (entry + period + length net.times * all_of * 1000000000 + 1) entry (length net.times * all_of) x late.0 late.1)

pub table-cycle : (net : Net) (entry period rounds : ℕ) (before : List ℕ) (starts : List (List ℕ)) → Lawful net → HasInputs net → IsLoopTable net entry period rounds before starts → HasCriticalCycle net period rounds
table-cycle net entry period rounds before starts laws fed table = critical-cycle net laws fed entry period rounds (table-repeats net laws fed entry period rounds before starts table) table.turns
