-- On a need cycle with the loop's rounds per time each need is tight.
use Rattle.std.proofs.Common.{◌≡◌, ℕ, ◌+◌, ◌-◌, ◌*◌, ◌/◌, ◌%◌, ◌≤◌, ◌<◌, List, [], ◌∷◌, length, subst, sym, ap, arith, mod-lt, div-add-mod', mul-le-mul_left}
use Rattle.std.specs.Prelude.{slice_index}
use Rattle.firing.specs.declared.table.LoopTable.{LoopTable}
use Rattle.critical.specs.declared.cycle.FiringNo.{FiringNo}
use Rattle.critical.specs.declared.cycle.CycleStep.{CycleStep}
use Rattle.critical.specs.declared.cycle.NeedCycle.{NeedCycle}
use Rattle.sd_base.specs.Net.{Net, channel_at}
use Rattle.sd_base.specs.Schedules.{time_of, LastNeed, Schedule, count_of, start_of, end_of, Admissible, HasInputs}
use Rattle.sd_base.specs.SelfTimed.{earliest}
use Rattle.sd_base.specs.Lawful.{Lawful}
use Rattle.sd_base.specs.Rates.{IsLoopTable}
use Rattle.sd_base.proofs.RoundsKeepTokens.{Whole, time-shift}
use Rattle.sd_base.proofs.FiringOrdersEnd.{sum_to}
use Rattle.sd_base.proofs.EndsDecideCounts.{ended_at}
use Rattle.sd_base.proofs.LoopRates.{sum_to-part}
use Rattle.critical.specs.Cycles.{IsStep, IsChain, last_of, time_along, HoldsOn}
use Rattle.critical.specs.CriticalCycles.{pass_of, IsTight, AreTight}
use Rattle.critical.proofs.FiringsStandApart.{moved-need, chain-spans, first-actor, turn, turns-apart}
use Rattle.critical.proofs.LaterCycles.{last-up, last-down}
use Rattle.critical.proofs.PassesRepeat.{up_to, early, some-pass, grows, counts-at, enough-passes, starts-after, pass-on, agree-at, time-passes, whole-passes, runs-past, runs-on}

-- a need of a step, moved, ends just when the step's firing starts
pub record JustAt (net : Net) (s : Schedule) (v : ℕ → ℕ) (from : FiringNo) (step : CycleStep) : Type 0 where
  pub there : from.number + v from.actor < count_of s from.actor
  pub here : step.to.number + v step.to.actor < count_of s step.to.actor
  pub just : end_of net s from.actor (from.number + v from.actor) ≡ start_of s step.to.actor (step.to.number + v step.to.actor)

abbrev JustAlong : Net → Schedule → (ℕ → ℕ) → FiringNo → List CycleStep → Type 0
JustAlong net s v from [] = Unit {0}
JustAlong net s v from (step ∷ steps) = JustAt net s v from step × JustAlong net s v step.to steps

module _ (net : Net) (s : Schedule) (good : Admissible net s) (v : ℕ → ℕ) (whole : Whole net v) (sources : (i : ℕ) → i < length net.channels → (channel_at net i).source < length net.times) where
  -- a chain that takes no longer than its times has no slack
  just-along : (from : FiringNo) (steps : List CycleStep) → IsChain net from steps → (last_of from steps).number + v (last_of from steps).actor < count_of s (last_of from steps).actor →
      start_of s from.actor (from.number + v from.actor) + time_along net from steps ≡ start_of s (last_of from steps).actor ((last_of from steps).number + v (last_of from steps).actor) → JustAlong net s v from steps
  just-along from [] chain there spans = tt
  just-along from (step ∷ steps) chain there spans =
      let rest = chain-spans net s good v whole sources step.to steps chain.1 there in
      let fed = moved-need net s good v whole step.channel step.to.number from.number from.actor step.to.actor chain.0.place chain.0.source chain.0.target chain.0.last.needed rest.there in
      let ended : end_of net s from.actor (from.number + v from.actor) ≤ start_of s step.to.actor (step.to.number + v step.to.actor) = fed.1 in
      let actor : from.actor < length net.times = subst (λ (x : ℕ). x < length net.times) chain.0.source (sources step.channel chain.0.place) in
      let same : time_of net from.actor (from.number + v from.actor) ≡ time_of net from.actor from.number = time-shift net v whole from.actor from.number actor in
      let just : end_of net s from.actor (from.number + v from.actor) ≡ start_of s step.to.actor (step.to.number + v step.to.actor) = omega (arith, rest.apart) in
      (record { there = fed.0; here = rest.there; just = just }, just-along step.to steps chain.1 there (omega (arith, rest.apart)))

module _ (net : Net) (laws : Lawful net) (inputs : HasInputs net) (table : LoopTable) (loop : IsLoopTable net table.entry table.period table.rounds table.before table.starts) where
  -- what is just so far on is so in the second pass
  tight-of : (n q : ℕ) (from : FiringNo) (step : CycleStep) → IsStep net from step → JustAt net (up_to net table q) (λ a. n * pass_of net table.rounds a) from step →
      count_of (up_to net table 1) step.to.actor ≤ step.to.number + n * pass_of net table.rounds step.to.actor → IsTight net table.entry table.period table.rounds from step
  tight-of n q from step leads just late =
      let a : ℕ = from.actor in
      let b : ℕ = step.to.actor in
      let u : ℕ = pass_of net table.rounds a in
      let v : ℕ = pass_of net table.rounds b in
      let m : ℕ = from.number + n * u in
      let k : ℕ = step.to.number + n * v in
      let low : ℕ = count_of (up_to net table 1) b in
      let j : ℕ = (k - low) / v in
      let x : ℕ = low + (k - low) % v in
      let y : ℕ = m - j * u in
      let source : a < length net.times = subst (λ (c : ℕ). c < length net.times) leads.source (laws.sources step.channel leads.place) in
      let target : b < length net.times = subst (λ (c : ℕ). c < length net.times) leads.target (laws.targets step.channel leads.place) in
      let split : (k - low) / v * v + (k - low) % v ≡ k - low = div-add-mod' (k - low) v in
      let small : (k - low) % v < v = mod-lt (k - low) (some-pass net laws inputs table loop b target) in
      let place : x + j * v ≡ k = omega arith in
      let within : x < count_of (up_to net table 2) b = omega (arith, counts-at net laws inputs table loop 2 b, counts-at net laws inputs table loop 1 b) in
      let begins : table.entry + 1 * table.period < start_of (up_to net table 2) b x = starts-after net laws inputs table loop 1 (table.entry + 2 * table.period + 1) b x (omega arith) within in
      let on : start_of (up_to net table (j + 2)) b (x + j * v) ≡ start_of (up_to net table 2) b x + j * table.period = pass-on net laws inputs table loop j 2 b x within (omega arith) in
      let far : x + j * v < count_of (up_to net table (j + 2)) b = omega (arith, counts-at net laws inputs table loop (j + 2) b, counts-at net laws inputs table loop 2 b) in
      let here : x + j * v < count_of (up_to net table q) b = rw place just.here in
      let same : start_of (up_to net table (j + 2)) b (x + j * v) ≡ start_of (up_to net table q) b (x + j * v) = agree-at net laws inputs table loop (j + 2) q b (x + j * v) far here in
      let start : start_of (up_to net table q) b (x + j * v) ≡ start_of (up_to net table q) b k = ap (start_of (up_to net table q) b) place in
      let ends : end_of net (up_to net table q) a m ≡ start_of (up_to net table q) b k = just.just in
      let past : ended_at net table.entry a + j * u ≤ m = runs-past net laws inputs table loop j q a m just.there (omega arith) in
      let back : y + j * u ≡ m = omega arith in
      let up : LastNeed (channel_at net step.channel) k m =
      last-up net (λ (c : ℕ). n * pass_of net table.rounds c) (whole-passes net laws inputs table loop n) step.channel leads.place a b step.to.number from.number leads.source leads.target leads.last in
      let moved : LastNeed (channel_at net step.channel) (x + j * v) (y + j * u) = rw (place, back) up in
      let down : LastNeed (channel_at net step.channel) x y =
      last-down net (λ (c : ℕ). j * pass_of net table.rounds c) (whole-passes net laws inputs table loop j) step.channel leads.place a b x y leads.source leads.target moved in
      let there_target : x < count_of (up_to net table 2) (channel_at net step.channel).target = subst (λ (c : ℕ). x < count_of (up_to net table 2) c) (sym leads.target) within in
      let there : y < count_of (up_to net table 2) a =
      subst (λ (c : ℕ). y < count_of (up_to net table 2) c) leads.source ((early net laws inputs table loop (table.entry + 2 * table.period + 1)).admissible.fed step.channel x y leads.place there_target down.needed).0 in
      let runs : table.entry < end_of net (up_to net table 2) a y = runs-on net laws inputs table loop 2 a y there (omega arith) in
      let need_on : start_of (up_to net table (j + 2)) a (y + j * u) ≡ start_of (up_to net table 2) a y + j * table.period = pass-on net laws inputs table loop j 2 a y there runs in
      let need_far : y + j * u < count_of (up_to net table (j + 2)) a = omega (arith, counts-at net laws inputs table loop (j + 2) a, counts-at net laws inputs table loop 2 a) in
      let need_here : y + j * u < count_of (up_to net table q) a = rw back just.there in
      let need_same : start_of (up_to net table (j + 2)) a (y + j * u) ≡ start_of (up_to net table q) a (y + j * u) = agree-at net laws inputs table loop (j + 2) q a (y + j * u) need_far need_here in
      let need_start : start_of (up_to net table q) a (y + j * u) ≡ start_of (up_to net table q) a m = ap (start_of (up_to net table q) a) back in
      let time : time_of net a (y + j * u) ≡ time_of net a y = time-passes net laws inputs table loop j a y source in
      let time_there : time_of net a (y + j * u) ≡ time_of net a m = ap (time_of net a) back in
      let first : table.entry + 1 * table.period + 1 ≡ table.entry + table.period + 1 = omega arith in
      let from_there : low ≤ x = omega arith in
      record {
        later = x;
        need = y;
        down = j;
        up = n;
        started = subst (λ (t : ℕ). count_of (earliest net t) b ≤ x) first from_there;
        within = within;
        at_step = place;
        at_need = back;
        last = down;
        there = there;
        just = omega arith;
      }

  tight-along : (n q : ℕ) → ((a : ℕ) → a < length net.times → count_of (up_to net table 1) a ≤ n * pass_of net table.rounds a) → (from : FiringNo) (steps : List CycleStep) → IsChain net from steps →
      JustAlong net (up_to net table q) (λ a. n * pass_of net table.rounds a) from steps → AreTight net table.entry table.period table.rounds from steps
  tight-along n q late from [] chain just = tt
  tight-along n q late from (step ∷ steps) chain just =
      let target : step.to.actor < length net.times = subst (λ (c : ℕ). c < length net.times) chain.0.target (laws.targets step.channel chain.0.place) in
      let far : count_of (up_to net table 1) step.to.actor ≤ n * pass_of net table.rounds step.to.actor = late step.to.actor target in
      (tight-of n q from step chain.0 just.0 (omega arith), tight-along n q late step.to steps chain.1 just.1)

  -- so many passes on, or more, all firings lie past the first pass
  far_on : ℕ
  far_on = sum_to (λ a. count_of (up_to net table 1) a) (length net.times)

  far-enough : (n : ℕ) → far_on ≤ n → (a : ℕ) → a < length net.times → count_of (up_to net table 1) a ≤ n * pass_of net table.rounds a
  unfolding far_on
  far-enough n le a actor =
      let part : count_of (up_to net table 1) a ≤ far_on = sum_to-part (λ b. count_of (up_to net table 1) b) (length net.times) a actor in
      omega (arith, grows net laws inputs table loop a n actor)

  module _ (cycle : NeedCycle) (holds : HoldsOn net cycle) (same : cycle.rounds * table.period ≡ table.rounds * cycle.time) where
    -- where as many laps as the loop has rounds take no longer than their times, so does the first
    first-lap : (laps less q : ℕ) → less + 1 ≡ table.rounds →
        cycle.first.number + (laps + table.rounds) * (cycle.rounds * slice_index net.round cycle.first.actor) < count_of (up_to net table q) cycle.first.actor →
        start_of (up_to net table q) cycle.first.actor (cycle.first.number + (laps + table.rounds) * (cycle.rounds * slice_index net.round cycle.first.actor))
        ≡ start_of (up_to net table q) cycle.first.actor (cycle.first.number + laps * (cycle.rounds * slice_index net.round cycle.first.actor)) + cycle.rounds * table.period →
        (cycle.first.number + (laps + 1) * (cycle.rounds * slice_index net.round cycle.first.actor) < count_of (up_to net table q) cycle.first.actor)
        × (start_of (up_to net table q) cycle.first.actor (cycle.first.number + laps * (cycle.rounds * slice_index net.round cycle.first.actor)) + cycle.time
        ≡ start_of (up_to net table q) cycle.first.actor (cycle.first.number + (laps + 1) * (cycle.rounds * slice_index net.round cycle.first.actor)))
    unfolding turn
    first-lap laps less q all there on =
        let a : ℕ = cycle.first.actor in
        let w : ℕ = cycle.rounds * slice_index net.round a in
        let good = (early net laws inputs table loop (table.entry + q * table.period + 1)).admissible in
        let parts : laps + 1 + less ≡ laps + table.rounds = omega (arith, all) in
        let rest = turns-apart net laws cycle holds (up_to net table q) good less (laps + 1) (rw parts there) in
        let first = turns-apart net laws cycle holds (up_to net table q) good 1 laps rest.there in
        let last : start_of (up_to net table q) a (cycle.first.number + (laps + 1) * w) + less * cycle.time ≤ start_of (up_to net table q) a (cycle.first.number + (laps + table.rounds) * w) = rw parts at rest.apart in
        let begins : start_of (up_to net table q) a (cycle.first.number + laps * w) + 1 * cycle.time ≤ start_of (up_to net table q) a (cycle.first.number + (laps + 1) * w) = first.apart in
        let times : (less + 1) * cycle.time ≡ table.rounds * cycle.time = ap (λ (x : ℕ). x * cycle.time) all in
        (rest.there, omega arith)

    -- so many passes on, which are whole laps, each need is tight
    tight-from : (up laps less q : ℕ) → less + 1 ≡ table.rounds → up * table.rounds ≡ laps * cycle.rounds → ((a : ℕ) → a < length net.times → count_of (up_to net table 1) a ≤ up * pass_of net table.rounds a) →
        cycle.first.number + up * pass_of net table.rounds cycle.first.actor + cycle.rounds * pass_of net table.rounds cycle.first.actor < count_of (up_to net table q) cycle.first.actor →
        AreTight net table.entry table.period table.rounds cycle.first cycle.steps
    tight-from up laps less q all whole late there =
        let a : ℕ = cycle.first.actor in
        let v : ℕ = pass_of net table.rounds a in
        let w : ℕ = cycle.rounds * slice_index net.round a in
        let last : FiringNo = last_of cycle.first cycle.steps in
        let k : ℕ = cycle.first.number + up * v in
        let actor : a < length net.times = first-actor net laws cycle.first cycle.steps holds.some_step holds.chain in
        let far : count_of (up_to net table 1) a ≤ up * v = late a actor in
        let here : k < count_of (up_to net table q) a = omega arith in
        let begins : table.entry + 1 * table.period < start_of (up_to net table q) a k = starts-after net laws inputs table loop 1 (table.entry + q * table.period + 1) a k (omega arith) here in
        let on : start_of (up_to net table (cycle.rounds + q)) a (k + cycle.rounds * v) ≡ start_of (up_to net table q) a k + cycle.rounds * table.period = pass-on net laws inputs table loop cycle.rounds q a k here (omega arith) in
        let there_on : k + cycle.rounds * v < count_of (up_to net table (cycle.rounds + q)) a = omega (arith, counts-at net laws inputs table loop (cycle.rounds + q) a, counts-at net laws inputs table loop q a) in
        let agree : start_of (up_to net table (cycle.rounds + q)) a (k + cycle.rounds * v) ≡ start_of (up_to net table q) a (k + cycle.rounds * v) = agree-at net laws inputs table loop (cycle.rounds + q) q a (k + cycle.rounds * v) there_on there in
        let turned : up * table.rounds * slice_index net.round a ≡ laps * cycle.rounds * slice_index net.round a = ap (λ (x : ℕ). x * slice_index net.round a) whole in
        let begin_place : cycle.first.number + laps * w ≡ k = omega arith in
        let begin_start : start_of (up_to net table q) a (cycle.first.number + laps * w) ≡ start_of (up_to net table q) a k = ap (start_of (up_to net table q) a) begin_place in
        let end_place : cycle.first.number + (laps + table.rounds) * w ≡ k + cycle.rounds * v = omega arith in
        let end_start : start_of (up_to net table q) a (cycle.first.number + (laps + table.rounds) * w) ≡ start_of (up_to net table q) a (k + cycle.rounds * v) = ap (start_of (up_to net table q) a) end_place in
        let lap = first-lap laps less q all (rw end_place there) (omega arith) in
        let next_place : last.number + up * v ≡ cycle.first.number + (laps + 1) * w = omega (arith, holds.number) in
        let next_start : start_of (up_to net table q) a (last.number + up * v) ≡ start_of (up_to net table q) a (cycle.first.number + (laps + 1) * w) = ap (start_of (up_to net table q) a) next_place in
        let spans : start_of (up_to net table q) a k + time_along net cycle.first cycle.steps ≡ start_of (up_to net table q) a (last.number + up * v) = omega (arith, lap.1, holds.time) in
        let last_there : last.number + up * pass_of net table.rounds last.actor < count_of (up_to net table q) last.actor =
        subst (λ (c : ℕ). last.number + up * pass_of net table.rounds c < count_of (up_to net table q) c) (sym holds.actor) (rw next_place lap.0) in
        let spans_last : start_of (up_to net table q) a k + time_along net cycle.first cycle.steps ≡ start_of (up_to net table q) last.actor (last.number + up * pass_of net table.rounds last.actor) =
        subst (λ (c : ℕ). start_of (up_to net table q) a k + time_along net cycle.first cycle.steps ≡ start_of (up_to net table q) c (last.number + up * pass_of net table.rounds c)) (sym holds.actor) spans in
        tight-along up q late cycle.first cycle.steps holds.chain
        (just-along net (up_to net table q) (early net laws inputs table loop (table.entry + q * table.period + 1)).admissible (λ c. up * pass_of net table.rounds c) (whole-passes net laws inputs table loop up) laws.sources
        cycle.first cycle.steps holds.chain last_there spans_last)

    pub cycle-tight : AreTight net table.entry table.period table.rounds cycle.first cycle.steps
    cycle-tight =
        let a : ℕ = cycle.first.actor in
        let up : ℕ = far_on * cycle.rounds in
        let k : ℕ = cycle.first.number + up * pass_of net table.rounds a + cycle.rounds * pass_of net table.rounds a in
        let more : far_on * 1 ≤ far_on * cycle.rounds = mul-le-mul_left far_on holds.some_round in
        tight-from up (far_on * table.rounds) (table.rounds - 1) (k + 1) (omega (arith, loop.turns)) (omega arith) (far-enough up (omega arith))
        (enough-passes net laws inputs table loop a k (first-actor net laws cycle.first cycle.steps holds.some_step holds.chain))
