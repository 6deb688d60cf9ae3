-- The firings of a chain stand in each admissible schedule that has the last of them, as far apart as their times say.
use Rattle.std.proofs.Common.{◌≡◌, ℕ, zero, suc, ◌+◌, ◌-◌, ◌*◌, ◌/◌, ◌%◌, ◌≤◌, ◌<◌, List, [], ◌∷◌, length, ⊎_elim, subst, arith, mul-le-mul_left, mul-le-mul, mod-lt, div-add-mod'}
use Rattle.std.proofs.lemmas.Bool.{cases_lt}
use Rattle.std.specs.Prelude.{slice_index}
use Rattle.critical.specs.declared.cycle.FiringNo.{FiringNo}
use Rattle.critical.specs.declared.cycle.CycleStep.{CycleStep}
use Rattle.critical.specs.declared.cycle.NeedCycle.{NeedCycle}
use Rattle.sd_base.specs.Net.{Net, channel_at}
use Rattle.sd_base.specs.Schedules.{time_of, Needs, Schedule, count_of, start_of, end_of, Admissible}
use Rattle.sd_base.specs.Lawful.{Lawful}
use Rattle.sd_base.proofs.LawfulIsRegular.{timed, wired, balanced}
use Rattle.sd_base.proofs.RoundsKeepTokens.{Whole, whole-times, whole-rounds, time-shift, needs-shift}
use Rattle.sd_base.proofs.FiringsKeepOrder.{starts-le}
use Rattle.critical.specs.Cycles.{IsChain, last_of, time_along, HoldsOn}

-- in s, firing k of a starts at least as long before firing n of b as the time says
pub record Spans (s : Schedule) (a k time b n : ℕ) : Type 0 where
  pub there : k < count_of s a
  pub apart : start_of s a k + time ≤ start_of s b n

module _ (net : Net) (s : Schedule) (good : Admissible net s) (v : ℕ → ℕ) (whole : Whole net v) where
  -- a need between firings moved by whole turns
  pub moved-need : (i j m a b : ℕ) → i < length net.channels → (channel_at net i).source ≡ a → (channel_at net i).target ≡ b → Needs (channel_at net i) j m →
      j + v b < count_of s b → (m + v a < count_of s a) × (end_of net s a (m + v a) ≤ start_of s b (j + v b))
  moved-need i j m a b place from to need =
      subst (λ (y : ℕ). j + v y < count_of s y → (m + v a < count_of s a) × (end_of net s a (m + v a) ≤ start_of s y (j + v y))) to (
      subst (λ (x : ℕ). j + v (channel_at net i).target < count_of s (channel_at net i).target → (m + v x < count_of s x) × (end_of net s x (m + v x) ≤ start_of s (channel_at net i).target (j + v (channel_at net i).target))) from (
      λ there. good.fed i (j + v (channel_at net i).target) (m + v (channel_at net i).source) place there (needs-shift net v whole i place j m need)))

  pub chain-spans : ((i : ℕ) → i < length net.channels → (channel_at net i).source < length net.times) → (from : FiringNo) (steps : List CycleStep) → IsChain net from steps →
      (last_of from steps).number + v (last_of from steps).actor < count_of s (last_of from steps).actor →
      Spans s from.actor (from.number + v from.actor) (time_along net from steps) (last_of from steps).actor ((last_of from steps).number + v (last_of from steps).actor)
  chain-spans actors from [] chain there = record { there = there; apart = omega arith }
  chain-spans actors from (step ∷ steps) chain there =
      let next = chain-spans actors step.to steps chain.1 there in
      let fed = moved-need step.channel step.to.number from.number from.actor step.to.actor chain.0.place chain.0.source chain.0.target chain.0.last.needed next.there in
      let ended : end_of net s from.actor (from.number + v from.actor) ≤ start_of s step.to.actor (step.to.number + v step.to.actor) = fed.1 in
      let actor : from.actor < length net.times = subst (λ (x : ℕ). x < length net.times) chain.0.source (actors step.channel chain.0.place) in
      let same : time_of net from.actor (from.number + v from.actor) ≡ time_of net from.actor from.number = time-shift net v whole from.actor from.number actor in
      record { there = fed.0; apart = omega (arith, next.apart) }

-- a chain with a step starts at an actor
pub first-actor : (net : Net) → Lawful net → (from : FiringNo) (steps : List CycleStep) → 1 ≤ length steps → IsChain net from steps → from.actor < length net.times
first-actor net laws from [] some chain = absurd (omega arith)
first-actor net laws from (step ∷ steps) some chain = subst (λ (x : ℕ). x < length net.times) chain.0.source (laws.sources step.channel chain.0.place)

-- it takes time
pub some-time : (net : Net) → Lawful net → (from : FiringNo) (steps : List CycleStep) → 1 ≤ length steps → IsChain net from steps → 1 ≤ time_along net from steps
some-time net laws from [] some chain = absurd (omega arith)
some-time net laws from (step ∷ steps) some chain =
    let takes : 1 ≤ time_of net from.actor from.number = (timed net laws).some from.actor from.number (first-actor net laws from (step ∷ steps) some chain) in omega arith

-- a need cycle on a lawful net
module _ (net : Net) (laws : Lawful net) (cycle : NeedCycle) (holds : HoldsOn net cycle) where
  -- the firings of its actor from the first to the last
  unfoldable pub turn : ℕ
  turn = cycle.rounds * slice_index net.round cycle.first.actor

  turns : Whole net (λ (a : ℕ). cycle.rounds * slice_index net.round a)
  turns = whole-rounds net cycle.rounds (wired net laws) (balanced net laws)

  module _ (s : Schedule) (good : Admissible net s) where
    -- the cycle, n times its rounds later
    one-turn : (n : ℕ) → cycle.first.number + suc n * turn < count_of s cycle.first.actor →
        Spans s cycle.first.actor (cycle.first.number + n * turn) cycle.time cycle.first.actor (cycle.first.number + suc n * turn)
    unfolding turn
    one-turn n there =
        let last : FiringNo = last_of cycle.first cycle.steps in
        let actor : last.actor ≡ cycle.first.actor = holds.actor in
        let place : last.number + n * (cycle.rounds * slice_index net.round cycle.first.actor) ≡ cycle.first.number + suc n * (cycle.rounds * slice_index net.round cycle.first.actor) = omega (arith, holds.number) in
        let at_last : last.number + n * (cycle.rounds * slice_index net.round last.actor) < count_of s last.actor = rw actor (rw place there) in
        let spans = chain-spans net s good (λ (a : ℕ). n * (cycle.rounds * slice_index net.round a)) (whole-times net (λ (a : ℕ). cycle.rounds * slice_index net.round a) n turns) laws.sources cycle.first cycle.steps holds.chain at_last in
        let apart : start_of s cycle.first.actor (cycle.first.number + n * (cycle.rounds * slice_index net.round cycle.first.actor)) + time_along net cycle.first cycle.steps
        ≤ start_of s last.actor (last.number + n * (cycle.rounds * slice_index net.round last.actor)) = spans.apart in
        let here : start_of s cycle.first.actor (cycle.first.number + n * (cycle.rounds * slice_index net.round cycle.first.actor)) + time_along net cycle.first cycle.steps
        ≤ start_of s cycle.first.actor (cycle.first.number + suc n * (cycle.rounds * slice_index net.round cycle.first.actor)) = rw place at (rw actor at apart) in
        record { there = spans.there; apart = omega (arith, holds.time) }

    many-turns : (n : ℕ) → cycle.first.number + n * turn < count_of s cycle.first.actor → n * cycle.time ≤ start_of s cycle.first.actor (cycle.first.number + n * turn)
    many-turns zero there = omega arith
    many-turns (suc n) there =
        let spans = one-turn n there in
        let more : suc n * cycle.time ≡ n * cycle.time + cycle.time = omega arith in
        omega (arith, spans.apart, many-turns n spans.there)

    -- so many turns after so many others take no less than their times
    pub turns-apart : (m n : ℕ) → cycle.first.number + (n + m) * turn < count_of s cycle.first.actor →
        Spans s cycle.first.actor (cycle.first.number + n * turn) (m * cycle.time) cycle.first.actor (cycle.first.number + (n + m) * turn)
    turns-apart zero n there =
        let e : n + 0 ≡ n = omega arith in
        rw e (record { there = rw e at there; apart = omega arith })
    turns-apart (suc m) n there =
        let e : n + suc m ≡ suc (n + m) = omega arith in
        let last = one-turn (n + m) (rw e at there) in
        let before = turns-apart m n last.there in
        let more : suc m * cycle.time ≡ m * cycle.time + cycle.time = omega arith in
        rw e (record { there = before.there; apart = omega (arith, before.apart, last.apart) })

    some-turn : 1 ≤ turn
    unfolding turn
    some-turn = mul-le-mul holds.some_round ((balanced net laws).fires cycle.first.actor (first-actor net laws cycle.first cycle.steps holds.some_step holds.chain))

    -- a firing of the actor comes no sooner than the rounds by the time say
    pub firing-late : (n t : ℕ) → n < count_of s cycle.first.actor → start_of s cycle.first.actor n < t →
        cycle.time * (n + 1) ≤ turn * t + cycle.time * (cycle.first.number + turn)
    firing-late n t there soon = ⊎_elim
        (λ (early : n < cycle.first.number + turn).
        let few : cycle.time * (n + 1) ≤ cycle.time * (cycle.first.number + turn) = mul-le-mul_left cycle.time (omega arith) in omega arith)
        (λ (late : cycle.first.number + turn ≤ n). after (n - (cycle.first.number + turn)) (omega arith))
        (cases_lt n (cycle.first.number + turn))
      where
        after : (x : ℕ) → n ≡ cycle.first.number + turn + x → cycle.time * (n + 1) ≤ turn * t + cycle.time * (cycle.first.number + turn)
        after x e =
            let split : x / turn * turn + x % turn ≡ x = div-add-mod' x turn in
            let rest : x % turn < turn = mod-lt x some-turn in
            let again : suc (x / turn) * turn ≡ x / turn * turn + turn = omega arith in
            let before : cycle.first.number + suc (x / turn) * turn ≤ n = omega arith in
            let late : suc (x / turn) * cycle.time ≤ start_of s cycle.first.actor (cycle.first.number + suc (x / turn) * turn) = many-turns (suc (x / turn)) (omega arith) in
            let rise : start_of s cycle.first.actor (cycle.first.number + suc (x / turn) * turn) ≤ start_of s cycle.first.actor n = starts-le net s good cycle.first.actor (cycle.first.number + suc (x / turn) * turn) n before there in
            let scaled : turn * (suc (x / turn) * cycle.time) ≤ turn * t = mul-le-mul_left turn (omega arith) in
            let reach : cycle.time * (n + 1) ≤ cycle.time * (cycle.first.number + turn + suc (x / turn) * turn) = mul-le-mul_left cycle.time (omega arith) in
            let product : cycle.time * (suc (x / turn) * turn) ≡ turn * (suc (x / turn) * cycle.time) = omega arith in
            omega arith
