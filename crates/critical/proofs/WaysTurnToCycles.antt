-- A way back to a firing that came again, turned round, is a need cycle with the loop's rounds per time.
use Rattle.std.proofs.Common.{◌≡◌, ℕ, zero, suc, ◌+◌, ◌-◌, ◌*◌, ◌/◌, ◌%◌, ◌≤◌, ◌<◌, ◌⊎◌, inl, inr, List, length, ⊎_elim, subst, sym, refl, ap, ◌∙◌, arith, div-add-mod', mul-le-mul, mul-le-mul_right}
use Rattle.std.specs.Prelude.{slice_index, slice_index_or}
use Rattle.std.proofs.Math.Nat.{add-mul-mod_self_right}
use Rattle.std.proofs.lemmas.Bool.{cases_lt}
use Rattle.std.proofs.lemmas.Nat.{same_from_place}
use Rattle.firing.specs.declared.table.LoopTable.{LoopTable}
use Rattle.critical.specs.declared.cycle.FiringNo.{FiringNo}
use Rattle.critical.specs.declared.cycle.CycleStep.{CycleStep}
use Rattle.critical.specs.declared.cycle.NeedCycle.{NeedCycle}
use Rattle.critical.specs.declared.walk.Met.{Met}
use Rattle.sd_base.specs.Net.{Net, channel_at}
use Rattle.sd_base.specs.Schedules.{time_of, LastNeed, count_of}
use Rattle.sd_base.proofs.LawfulIsRegular.{timed, balanced}
use Rattle.sd_base.proofs.RoundsKeepTokens.{time-shift}
use Rattle.sd_base.proofs.ElementsKeepPlaces.{entry-le-sum}
use Rattle.critical.specs.Cycles.{IsStep, IsChain, last_of, time_along, HoldsOn}
use Rattle.critical.specs.Spaces.{no_step}
use Rattle.critical.specs.CriticalCycles.{pass_of, firing_at}
use Rattle.critical.specs.inside.Trails.{IsShortLoop, IsSecond, Leads, IsTrail, second_of, listed_at, raised_number, lowered_firing, steps_of}
use Rattle.critical.proofs.PassesRepeat.{actors-same, listed-many, some-pass, whole-passes, time-passes}
use Rattle.critical.proofs.LaterCycles.{rounds-whole, last-up, last-down}
use Rattle.critical.proofs.TrailsLeadBack.{chain-of, last-of_steps}
use Rattle.critical.proofs.PlacesTellFirings.{firing-same}

module _ (net : Net) (table : LoopTable) (loop : IsShortLoop net table) where
  is-actor : (x : FiringNo) → IsSecond table x → x.actor < length net.times
  is-actor x second = omega (arith, second.actor, actors-same net loop.laws loop.inputs table loop.loop)

  pub some-round : (x : FiringNo) → IsSecond table x → 1 ≤ slice_index net.round x.actor
  some-round x second = (balanced net loop.laws).fires x.actor (is-actor x second)

  -- numbers raised by passes stay small
  pub raised-small : (met : Met) (passes : ℕ) → passes * table.rounds ≤ 32000000000000 → (passes - met.passes) * table.rounds * slice_index net.round met.firing.actor ≤ 3200000000000000000
  raised-small met passes near =
      let few : slice_index net.round met.firing.actor ≤ 100000 = omega (arith, entry-le-sum net.round met.firing.actor, loop.laws.small_round) in
      let less : (passes - met.passes) * table.rounds ≤ passes * table.rounds = mul-le-mul_right table.rounds (omega arith) in
      let small : (passes - met.passes) * table.rounds ≤ 32000000000000 = omega arith in
      let all : (passes - met.passes) * table.rounds * slice_index net.round met.firing.actor ≤ 32000000000000 * 100000 = mul-le-mul small few in
      omega arith

  pub number-small : (x : FiringNo) → IsSecond table x → x.number < 8000000
  number-small x second =
      let few : second_of table x.actor ≤ 4000000 = loop.short.few x.actor second.actor in
      omega (arith, second.below)

  module _ (at : ℕ → Met) (n : ℕ) (way : IsTrail net table at n) where
    -- along the way passes and times grow, and times are those of the loop
    rise-along : (i d : ℕ) → i + d ≤ n → ((at i).passes ≤ (at (i + d)).passes) × ((at i).time + d ≤ (at (i + d)).time)
        × (listed_at table (at (i + d)).firing + (at (i + d)).time + (at i).passes * table.period ≡ listed_at table (at i).firing + (at i).time + (at (i + d)).passes * table.period)
    rise-along i zero within = let e : i + 0 ≡ i = omega arith in rw e (omega arith, omega arith, refl)
    rise-along i (suc d) within =
        let e : suc (i + d) ≡ i + suc d = omega arith in
        let so_far = rise-along i d (omega arith) in
        let leads : Leads net table (at (i + d)) (at (suc (i + d))) = way.leads (i + d) (omega arith) in
        let second : IsSecond table (at (suc (i + d))).firing = leads.need.read.second in
        let takes : 1 ≤ time_of net (at (suc (i + d))).firing.actor (at (suc (i + d))).firing.number = (timed net loop.laws).some (at (suc (i + d))).firing.actor (at (suc (i + d))).firing.number (is-actor (at (suc (i + d))).firing second) in
        let more : (at (suc (i + d))).passes * table.period ≡ ((at (i + d)).passes + leads.passes) * table.period = ap (λ (x : ℕ). x * table.period) leads.on in
        let just : listed_at table (at (suc (i + d))).firing + time_of net (at (suc (i + d))).firing.actor (at (suc (i + d))).firing.number ≡ listed_at table (at (i + d)).firing + leads.passes * table.period = leads.need.just in
        subst (λ (k : ℕ). ((at i).passes ≤ (at k).passes) × ((at i).time + suc d ≤ (at k).time)
        × (listed_at table (at k).firing + (at k).time + (at i).passes * table.period ≡ listed_at table (at i).firing + (at i).time + (at k).passes * table.period)) e
        (omega (arith, so_far.0, leads.on), omega (arith, so_far.1, leads.time), omega (arith, so_far.2, leads.time))

    pub passes-rise : (i j : ℕ) → i ≤ j → j ≤ n → (at i).passes ≤ (at j).passes
    passes-rise i j le within =
        let e : i + (j - i) ≡ j = omega arith in
        subst (λ (k : ℕ). (at i).passes ≤ (at k).passes) e (rise-along i (j - i) (omega arith)).0

    pub time-rises : (i j : ℕ) → i ≤ j → j ≤ n → (at i).time + (j - i) ≤ (at j).time
    time-rises i j le within =
        let e : i + (j - i) ≡ j = omega arith in
        subst (λ (k : ℕ). (at i).time + (j - i) ≤ (at k).time) e (rise-along i (j - i) (omega arith)).1

    pub times-are : (i j : ℕ) → i ≤ j → j ≤ n → listed_at table (at j).firing + (at j).time + (at i).passes * table.period ≡ listed_at table (at i).firing + (at i).time + (at j).passes * table.period
    times-are i j le within =
        let e : i + (j - i) ≡ j = omega arith in
        subst (λ (k : ℕ). listed_at table (at k).firing + (at k).time + (at i).passes * table.period ≡ listed_at table (at i).firing + (at i).time + (at k).passes * table.period) e (rise-along i (j - i) (omega arith)).2

    -- ---- all of them as many passes later, and so many rounds lower

    module _ (rounds from : ℕ) (before : from < n) (enough : (i : ℕ) → from ≤ i → i ≤ n → rounds * slice_index net.round (at i).firing.actor ≤ raised_number net table (at n).passes (at i)) where
      pub forward_at : ℕ → FiringNo
      forward_at i = lowered_firing net table (at n).passes rounds (at i)

      raised-up : (i : ℕ) → from ≤ i → i ≤ n → (forward_at i).number + rounds * slice_index net.round (at i).firing.actor ≡ (at i).firing.number + ((at n).passes - (at i).passes) * pass_of net table.rounds (at i).firing.actor
      unfolding forward_at
      raised-up i late within = omega (arith, enough i late within)

      forward-step : (m : ℕ) → from ≤ m → m < n → IsStep net (forward_at (suc m)) (record { channel = (at (suc m)).channel; to = forward_at m })
      unfolding forward_at
      forward-step m late below =
          let leads : Leads net table (at m) (at (suc m)) = way.leads m below in
          let i : ℕ = (at (suc m)).channel in
          let a : ℕ = (at (suc m)).firing.actor in
          let b : ℕ = (at m).firing.actor in
          let left : ℕ = (at n).passes - (at m).passes in
          let actor : a < length net.times = is-actor (at (suc m)).firing leads.need.read.second in
          let many : count_of table.starts a ≡ pass_of net table.rounds a = listed-many net loop.laws loop.inputs table loop.loop a actor in
          let up : LastNeed (channel_at net i) ((at m).firing.number + left * pass_of net table.rounds b) (leads.need.number + left * pass_of net table.rounds a) =
          last-up net (λ (c : ℕ). left * pass_of net table.rounds c) (whole-passes net loop.laws loop.inputs table loop.loop left) i leads.need.place a b (at m).firing.number leads.need.number leads.need.read.source leads.need.target leads.need.last in
          let to : (at m).firing.number + left * pass_of net table.rounds b ≡ (forward_at m).number + rounds * slice_index net.round b = sym (raised-up m late (omega arith)) in
          let on : leads.need.number + leads.passes * pass_of net table.rounds a ≡ (at (suc m)).firing.number = ap (λ (x : ℕ). leads.need.number + leads.passes * x) (sym many) ∙ leads.need.read.read in
          let parts : left ≡ leads.passes + ((at n).passes - (at (suc m)).passes) = omega (arith, leads.on, passes-rise (suc m) n (omega arith) (omega arith)) in
          let split : left * pass_of net table.rounds a ≡ (leads.passes + ((at n).passes - (at (suc m)).passes)) * pass_of net table.rounds a = ap (λ (x : ℕ). x * pass_of net table.rounds a) parts in
          let from_there : leads.need.number + left * pass_of net table.rounds a ≡ (forward_at (suc m)).number + rounds * slice_index net.round a = omega (arith, raised-up (suc m) (omega arith) (omega arith)) in
          record {
            place = leads.need.place;
            source = leads.need.read.source;
            target = leads.need.target;
            last = last-down net (λ (c : ℕ). rounds * slice_index net.round c) (rounds-whole net loop.laws rounds) i leads.need.place a b (forward_at m).number (forward_at (suc m)).number leads.need.read.source leads.need.target (rw (to, from_there) at up);
          }

      forward-time : (i : ℕ) → from ≤ i → i ≤ n → time_of net (forward_at i).actor (forward_at i).number ≡ time_of net (at i).firing.actor (at i).firing.number
      unfolding forward_at
      forward-time i late within =
          let a : ℕ = (at i).firing.actor in
          let actor : a < length net.times = is-actor (at i).firing (way.second i within) in
          let lower : time_of net a ((forward_at i).number + rounds * slice_index net.round a) ≡ time_of net a (forward_at i).number = time-shift net (λ (c : ℕ). rounds * slice_index net.round c) (rounds-whole net loop.laws rounds) a (forward_at i).number actor in
          let higher : time_of net a ((at i).firing.number + ((at n).passes - (at i).passes) * pass_of net table.rounds a) ≡ time_of net a (at i).firing.number = time-passes net loop.laws loop.inputs table loop.loop ((at n).passes - (at i).passes) a (at i).firing.number actor in
          sym lower ∙ (ap (time_of net a) (raised-up i late within) ∙ higher)

      channel_to : ℕ → ℕ
      channel_to i = (at (i + 1)).channel

      pub steps_forward : ℕ → List CycleStep
      steps_forward d = steps_of forward_at channel_to from d

      steps-many : (d : ℕ) → length (steps_forward d) ≡ d
      unfolding steps_forward
      steps-many zero = refl
      steps-many (suc d) = omega (arith, steps-many d)

      along-time : (d : ℕ) → from + d ≤ n → time_along net (forward_at (from + d)) (steps_forward d) + (at from).time ≡ (at (from + d)).time
      unfolding steps_forward
      along-time zero within = let e : from + 0 ≡ from = omega arith in rw e (omega arith)
      along-time (suc d) within =
          let e : suc (from + d) ≡ from + suc d = omega arith in
          let leads : Leads net table (at (from + d)) (at (suc (from + d))) = way.leads (from + d) (omega arith) in
          subst (λ (k : ℕ). time_of net (forward_at k).actor (forward_at k).number + time_along net (forward_at (from + d)) (steps_of forward_at channel_to from d) + (at from).time ≡ (at k).time) e
          (omega (arith, along-time d (omega arith), leads.time, forward-time (suc (from + d)) (omega arith) (omega arith)))

      forward-chain : IsChain net (forward_at n) (steps_forward (n - from))
      unfolding steps_forward channel_to
      forward-chain =
          let e : from + (n - from) ≡ n = omega arith in
          subst (λ (k : ℕ). IsChain net (forward_at k) (steps_of forward_at channel_to from (n - from))) e
          (chain-of net forward_at channel_to from n (λ m late below.
          let f : m + 1 ≡ suc m = omega arith in
          subst (λ (k : ℕ). IsStep net (forward_at (suc m)) (record { channel = (at k).channel; to = forward_at m })) (sym f) (forward-step m late below)) (n - from) (omega arith))

      forward-last : last_of (forward_at n) (steps_forward (n - from)) ≡ forward_at from
      unfolding steps_forward
      forward-last =
          let e : from + (n - from) ≡ n = omega arith in
          subst (λ (k : ℕ). last_of (forward_at k) (steps_of forward_at channel_to from (n - from)) ≡ forward_at from) e (last-of_steps forward_at channel_to from (n - from))

      module _ (same : (at from).firing ≡ (at n).firing) where
        pub turned : ℕ
        turned = (at n).passes - (at from).passes

        pub cycle-time : (at n).time - (at from).time ≡ turned * table.period
        unfolding turned
        cycle-time =
            let here : listed_at table (at from).firing ≡ listed_at table (at n).firing = ap (listed_at table) same in
            let parts : (at n).passes ≡ (at from).passes + ((at n).passes - (at from).passes) = omega (arith, passes-rise from n (omega arith) (omega arith)) in
            let split : (at n).passes * table.period ≡ ((at from).passes + ((at n).passes - (at from).passes)) * table.period = ap (λ (x : ℕ). x * table.period) parts in
            omega (arith, times-are from n (omega arith) (omega arith), time-rises from n (omega arith) (omega arith))

        some-turn : 1 ≤ turned
        some-turn = ⊎_elim
            (λ (none : turned < 1). absurd (
            let nothing : turned * table.period ≡ 0 * table.period = ap (λ (x : ℕ). x * table.period) (omega arith) in
            omega (arith, cycle-time, time-rises from n (omega arith) (omega arith))))
            (λ (h : 1 ≤ turned). h) (cases_lt turned 1)

        pub closed : NeedCycle
        closed = record { time = (at n).time - (at from).time; rounds = turned * table.rounds; first = forward_at n; steps = steps_forward (n - from) }

        pub closed-holds : HoldsOn net closed
        unfolding closed turned forward_at
        closed-holds =
            let a : ℕ = (at n).firing.actor in
            let actors : (at from).firing.actor ≡ (at n).firing.actor = ap (λ (x : FiringNo). x.actor) same in
            let numbers : (at from).firing.number ≡ (at n).firing.number = ap (λ (x : FiringNo). x.number) same in
            let round : slice_index net.round (at from).firing.actor ≡ slice_index net.round a = ap (slice_index net.round) actors in
            let last : (last_of (forward_at n) (steps_forward (n - from))).number ≡ (forward_at from).number = ap (λ (x : FiringNo). x.number) forward-last in
            let low : (forward_at from).number + rounds * slice_index net.round (at from).firing.actor ≡ (at from).firing.number + ((at n).passes - (at from).passes) * pass_of net table.rounds (at from).firing.actor = raised-up from (omega arith) (omega arith) in
            let low_there : (forward_at from).number + rounds * slice_index net.round a ≡ (at from).firing.number + ((at n).passes - (at from).passes) * (table.rounds * slice_index net.round a) =
            subst (λ (g : ℕ). (forward_at from).number + rounds * g ≡ (at from).firing.number + ((at n).passes - (at from).passes) * (table.rounds * g)) round low in
            let high : (forward_at n).number + rounds * slice_index net.round a ≡ (at n).firing.number + ((at n).passes - (at n).passes) * pass_of net table.rounds a = raised-up n (omega arith) (omega arith) in
            let none : ((at n).passes - (at n).passes) * (table.rounds * slice_index net.round a) ≡ 0 * (table.rounds * slice_index net.round a) = ap (λ (x : ℕ). x * (table.rounds * slice_index net.round a)) (omega arith) in
            let e : from + (n - from) ≡ n = omega arith in
            let time : time_along net (forward_at n) (steps_forward (n - from)) + (at from).time ≡ (at n).time =
            subst (λ (k : ℕ). time_along net (forward_at k) (steps_forward (n - from)) + (at from).time ≡ (at k).time) e (along-time (n - from) (omega arith)) in
            record {
              some_step = omega (arith, steps-many (n - from));
              some_round = mul-le-mul some-turn loop.loop.turns;
              chain = forward-chain;
              actor = ap (λ (x : FiringNo). x.actor) forward-last ∙ actors;
              number = last ∙ omega arith;
              time = omega arith;
            }

        pub closed-rate : closed.rounds * table.period ≡ table.rounds * closed.time
        unfolding closed
        closed-rate = omega (arith, ap (λ (x : ℕ). table.rounds * x) cycle-time)

        steps-read : (d j : ℕ) → j < d → slice_index_or (steps_forward d) j no_step ≡ record { channel = channel_to (from + (d - 1 - j)); to = forward_at (from + (d - 1 - j)) }
        unfolding steps_forward
        steps-read zero j below = absurd (omega arith)
        steps-read (suc d) zero below = let e : suc d - 1 - 0 ≡ d = omega arith in rw e refl
        steps-read (suc d) (suc j) below =
            let e : suc d - 1 - suc j ≡ d - 1 - j = omega arith in
            rw e (steps-read d j (omega arith))

        -- firing i of the cycle is that met so many places before the end
        cycle-firing : (i : ℕ) → i ≤ n - from → firing_at closed i ≡ forward_at (n - i)
        unfolding closed
        cycle-firing zero le = let e : n - 0 ≡ n = omega arith in rw e refl
        cycle-firing (suc i) le =
            let e : from + (n - from - 1 - i) ≡ n - suc i = omega arith in
            ap (λ (step : CycleStep). step.to) (steps-read (n - from) i (omega arith)) ∙ ap forward_at e

        pub cycle-long : length closed.steps ≡ n - from
        unfolding closed
        cycle-long = steps-many (n - from)

        module _ (apart : (i j : ℕ) → i < j → j < n → ¬ ((at i).firing ≡ (at j).firing)) where
          -- firings at one place of a pass are one
          places-apart : (i j : ℕ) → from ≤ i → i < j → j < n → (forward_at i).actor ≡ (forward_at j).actor →
              ¬ ((forward_at i).number % pass_of net table.rounds (forward_at i).actor ≡ (forward_at j).number % pass_of net table.rounds (forward_at j).actor)
          unfolding forward_at
          places-apart i j late less below actors places =
              let a : ℕ = (at i).firing.actor in
              let v : ℕ = pass_of net table.rounds a in
              let actor : a < length net.times = is-actor (at i).firing (way.second i (omega arith)) in
              let some : 1 ≤ v = some-pass net loop.laws loop.inputs table loop.loop a actor in
              let many : count_of table.starts a ≡ v = listed-many net loop.laws loop.inputs table loop.loop a actor in
              let there : (forward_at j).number + rounds * slice_index net.round a ≡ (at j).firing.number + ((at n).passes - (at j).passes) * v =
              subst (λ (b : ℕ). (forward_at j).number + rounds * slice_index net.round b ≡ (at j).firing.number + ((at n).passes - (at j).passes) * pass_of net table.rounds b) (sym actors) (raised-up j (omega arith) (omega arith)) in
              let here : (forward_at i).number + rounds * slice_index net.round a ≡ (at i).firing.number + ((at n).passes - (at i).passes) * v = raised-up i late (omega arith) in
              let one : (forward_at i).number / v * v + (forward_at i).number % v ≡ (forward_at i).number = div-add-mod' (forward_at i).number v in
              let other : (forward_at j).number / v * v + (forward_at j).number % v ≡ (forward_at j).number = div-add-mod' (forward_at j).number v in
              let rest : (forward_at i).number % v ≡ (forward_at j).number % v = subst (λ (b : ℕ). (forward_at i).number % v ≡ (forward_at j).number % pass_of net table.rounds b) (sym actors) places in
              let second_i : IsSecond table (at i).firing = way.second i (omega arith) in
              let second_j : IsSecond table (record { actor = a; number = (at j).firing.number }) = subst (λ (b : ℕ). IsSecond table (record { actor = b; number = (at j).firing.number })) (sym actors) (way.second j (omega arith)) in
              let place : (at i).firing.number - second_of table a ≡ (at j).firing.number - second_of table a =
              (same_from_place (((at n).passes - (at i).passes) + (forward_at j).number / v) ((at i).firing.number - second_of table a) (((at n).passes - (at j).passes) + (forward_at i).number / v) ((at j).firing.number - second_of table a) v (omega (arith, second_i.from, second_i.below)) (omega (arith, second_j.from, second_j.below)) (omega (arith, second_i.from, second_j.from))).1 in
              apart i j less below (firing-same (at i).firing (at j).firing actors (omega (arith, second_i.from, second_j.from)))

          -- the last firing lies whole passes after the first
          last-passes : (forward_at from).number ≡ (forward_at n).number + turned * pass_of net table.rounds (forward_at n).actor
          unfolding closed
          last-passes = sym (ap (λ (x : FiringNo). x.number) forward-last) ∙ (closed-holds.number ∙ omega arith)

          last-actor : (forward_at from).actor ≡ (forward_at n).actor
          unfolding closed
          last-actor = sym (ap (λ (x : FiringNo). x.actor) forward-last) ∙ closed-holds.actor

          last-place : (forward_at from).number % pass_of net table.rounds (forward_at from).actor ≡ (forward_at n).number % pass_of net table.rounds (forward_at n).actor
          last-place = ap (λ (b : ℕ). (forward_at from).number % pass_of net table.rounds b) last-actor
              ∙ (ap (λ (m : ℕ). m % pass_of net table.rounds (forward_at n).actor) last-passes ∙ add-mul-mod_self_right (forward_at n).number turned (pass_of net table.rounds (forward_at n).actor))

          firings-apart : (i j : ℕ) → i < j → j ≤ n - from → (1 ≤ i) ⊎ (j < n - from) → (forward_at (n - i)).actor ≡ (forward_at (n - j)).actor →
              ¬ ((forward_at (n - i)).number % pass_of net table.rounds (forward_at (n - i)).actor ≡ (forward_at (n - j)).number % pass_of net table.rounds (forward_at (n - j)).actor)
          firings-apart zero j less le (inl some) actors places = absurd (omega arith)
          firings-apart zero j less le (inr inside) actors places =
              let e : n - 0 ≡ n = omega arith in
              places-apart from (n - j) (omega arith) (omega arith) (omega arith) (last-actor ∙ (rw e at actors)) (last-place ∙ (rw e at places))
          firings-apart (suc i) j less le either actors places = places-apart (n - j) (n - suc i) (omega arith) (omega arith) (omega arith) (sym actors) (sym places)

          pub closed-apart : (i j : ℕ) → i < j → j ≤ length closed.steps → (1 ≤ i) ⊎ (j < length closed.steps) → (firing_at closed i).actor ≡ (firing_at closed j).actor →
              ¬ ((firing_at closed i).number % pass_of net table.rounds (firing_at closed i).actor ≡ (firing_at closed j).number % pass_of net table.rounds (firing_at closed j).actor)
          closed-apart i j less le either =
              rw (cycle-firing i (omega (arith, cycle-long)), cycle-firing j (omega (arith, cycle-long)))
              (firings-apart i j less (omega (arith, cycle-long)) (rw cycle-long at either))

        pub closed-least : (i : ℕ) → from ≤ i → i ≤ n → raised_number net table (at n).passes (at i) < rounds * slice_index net.round (at i).firing.actor + slice_index net.round (at i).firing.actor →
            (k : ℕ) × (k ≤ length closed.steps) × ((firing_at closed k).number < slice_index net.round (firing_at closed k).actor)
        unfolding forward_at
        closed-least i late within less =
            let back : n - (n - i) ≡ i = omega arith in
            let firing : firing_at closed (n - i) ≡ forward_at i = cycle-firing (n - i) (omega arith) ∙ ap forward_at back in
            (n - i, omega (arith, cycle-long), subst (λ (x : FiringNo). x.number < slice_index net.round x.actor) (sym firing) (omega (arith, enough i late within)))

        pub closed-is : closed ≡ record {
          time = (at n).time - (at from).time;
          rounds = ((at n).passes - (at from).passes) * table.rounds;
          first = lowered_firing net table (at n).passes rounds (at n);
          steps = steps_of (λ i. lowered_firing net table (at n).passes rounds (at i)) (λ i. (at (i + 1)).channel) from (n - from);
        }
        unfolding closed turned forward_at steps_forward channel_to
        closed-is = refl
