-- A firing after the entry has the same tight needs as the one passes after it.
use Rattle.std.proofs.Common.{◌≡◌, ℕ, ◌+◌, ◌-◌, ◌*◌, ◌≤◌, ◌<◌, List, [], ◌∷◌, ◌++◌, length, subst, ap, arith}
use Rattle.std.specs.Prelude.{slice_index}
use Rattle.critical.specs.declared.cycle.FiringNo.{FiringNo}
use Rattle.critical.specs.declared.cycle.CycleStep.{CycleStep}
use Rattle.completion.specs.declared.timetable.Timetable.{Timetable}
use Rattle.sd_base.specs.Net.{Net, channel_at}
use Rattle.sd_base.specs.Schedules.{LastNeed, count_of, end_of, start_of}
use Rattle.sd_base.proofs.RoundsKeepTokens.{time-shift}
use Rattle.critical.specs.Cycles.{IsChain, IsStep, last_of}
use Rattle.critical.proofs.LaterCycles.{last-up}
use Rattle.critical.proofs.PassesRepeat as shared
use Rattle.critical.proofs.PassesRepeat.{up_to}
use Rattle.completion.specs.Ways.{AreFirstTight, IsFirstTight, IsTight, StartsAt, firing_time}
use Rattle.completion.specs.inside.Timetables.{IsTimetable, before_of, moment_of, pass_of}
use Rattle.completion.proofs.ChainsStartInTurn.{chain-starts, step-fed}
use Rattle.completion.proofs.FiringsStartOnce.{one-start, start-is}
use Rattle.completion.proofs.TimetablesTellStarts.{counts-at, late-number, moment-later, moment-starts, pass-is}
use Rattle.completion.proofs.SegmentsComeAgain.{Reaches, sooner, sooner_steps, step-sooner, time-sooner, whole}

module _ (net : Net) (times : Timetable) (is : IsTimetable net times) where
  -- a firing that starts late enough, and the one so many passes before
  module _ (q : ℕ) (x : FiringNo) (m : ℕ) (actor : x.actor < length net.times) (at : StartsAt net x.actor x.number m) (late : times.table.entry + q * times.table.period < m) where
    from-entry : before_of times x.actor + q * pass_of times x.actor ≤ x.number
    from-entry = late-number net times is q x.actor x.number m actor at late

    pub reach : Reaches net times q x
    reach = record { actor = actor; back = omega (arith, from-entry) }

    pub sooner-moment : moment_of times x.actor (x.number - q * pass_of times x.actor) + q * times.table.period ≡ m
    sooner-moment =
        let on : moment_of times x.actor (x.number - q * pass_of times x.actor + q * pass_of times x.actor) ≡ moment_of times x.actor (x.number - q * pass_of times x.actor) + q * times.table.period =
        moment-later net times is x.actor (x.number - q * pass_of times x.actor) q actor (omega (arith, from-entry)) in
        let place : x.number - q * pass_of times x.actor + q * pass_of times x.actor ≡ x.number = omega (arith, from-entry) in
        let same : moment_of times x.actor (x.number - q * pass_of times x.actor + q * pass_of times x.actor) ≡ moment_of times x.actor x.number = ap (moment_of times x.actor) place in
        let here : moment_of times x.actor x.number ≡ m = one-start net is.laws is.inputs x.actor x.number (moment_of times x.actor x.number) m (moment-starts net times is x.actor x.number actor) at in
        omega (arith, on, same, here)

    pub sooner-starts : StartsAt net x.actor (x.number - q * pass_of times x.actor) (moment_of times x.actor (x.number - q * pass_of times x.actor))
    sooner-starts = moment-starts net times is x.actor (x.number - q * pass_of times x.actor) actor

    pub sooner-late : times.table.entry < moment_of times x.actor (x.number - q * pass_of times x.actor)
    sooner-late = omega (arith, sooner-moment)

  -- a firing that ends after the entry starts so many periods before the one passes after it
  module _ (q : ℕ) (x : FiringNo) (s : ℕ) (actor : x.actor < length net.times) (at : StartsAt net x.actor x.number s) (late : times.table.entry < s + firing_time net x) where
    pub later-starts : StartsAt net x.actor (x.number + q * (times.table.rounds * slice_index net.round x.actor)) (s + q * times.table.period)
    later-starts =
        let k : ℕ = x.number in
        let there : x.number < count_of (up_to net times.table (x.number + 1)) x.actor = shared.enough-passes net is.laws is.inputs times.table is.loop x.actor x.number actor in
        let here : start_of (up_to net times.table (x.number + 1)) x.actor x.number ≡ s = start-is net is.laws is.inputs x.actor x.number s (times.table.entry + (x.number + 1) * times.table.period + 1) at there in
        let ends : times.table.entry < end_of net (up_to net times.table (x.number + 1)) x.actor x.number = omega (arith, here, late) in
        let on : start_of (up_to net times.table (q + (x.number + 1))) x.actor (x.number + q * (times.table.rounds * slice_index net.round x.actor)) ≡ start_of (up_to net times.table (x.number + 1)) x.actor x.number + q * times.table.period =
        shared.pass-on net is.laws is.inputs times.table is.loop q (x.number + 1) x.actor x.number there ends in
        let more : x.number + q * pass_of times x.actor < count_of (up_to net times.table (q + (x.number + 1))) x.actor = omega (arith, counts-at net times is (q + (x.number + 1)) x.actor actor, counts-at net times is (x.number + 1) x.actor actor) in
        record {
          by = times.table.entry + (q + (x.number + 1)) * times.table.period + 1;
          there = rw (← pass-is net times is x.actor actor) more;
          at = omega (arith, on, here);
        }

  module _ (q i : ℕ) (later earlier : FiringNo) (first : IsFirstTight net i later earlier) (m l : ℕ) (actor_later : later.actor < length net.times) (actor_earlier : earlier.actor < length net.times)
      (at : StartsAt net later.actor later.number m) (at_earlier : StartsAt net earlier.actor earlier.number l) (late : times.table.entry + q * times.table.period < l) where
    just : l + firing_time net earlier ≡ m
    just =
        let t = first.tight in
        let same_m : first.tight.moment ≡ m = one-start net is.laws is.inputs later.actor later.number first.tight.moment m first.tight.starts at in
        let same_l : first.tight.ends.start ≡ l = one-start net is.laws is.inputs earlier.actor earlier.number first.tight.ends.start l first.tight.ends.starts at_earlier in
        omega (arith, first.tight.ends.takes, same_m, same_l)

    late_m : times.table.entry + q * times.table.period < m
    late_m = omega (arith, just, late)

    step : IsStep net earlier (record { channel = i; to = later })
    step = record { place = first.tight.place; source = first.tight.source; target = first.tight.target; last = first.tight.last }

    step-before : IsStep net (sooner times q earlier) (record { channel = i; to = sooner times q later })
    step-before = step-sooner net times is q earlier (record { channel = i; to = later }) step (reach q earlier l actor_earlier at_earlier late) (reach q later m actor_later at late_m)

    none-before : (j : ℕ) (other : FiringNo) → j < i → IsTight net j (sooner times q later) other → ⊥
    none-before j other below t =
        let actor_other : other.actor < length net.times = subst (λ (b : ℕ). b < length net.times) t.source (is.laws.sources j t.place) in
        let starts_then : t.moment ≡ moment_of times later.actor (later.number - q * pass_of times later.actor) =
        one-start net is.laws is.inputs later.actor (later.number - q * pass_of times later.actor) t.moment (moment_of times later.actor (later.number - q * pass_of times later.actor)) t.starts (sooner-starts q later m actor_later at late_m) in
        let ends_late : times.table.entry < t.ends.start + firing_time net other = omega (arith, t.ends.takes, starts_then, sooner-late q later m actor_later at late_m) in
        let v : ℕ → ℕ = λ (a : ℕ). q * (times.table.rounds * slice_index net.round a) in
        let again : FiringNo = record { actor = other.actor; number = other.number + q * (times.table.rounds * slice_index net.round other.actor) } in
        let place : later.number - q * pass_of times later.actor + q * (times.table.rounds * slice_index net.round later.actor) ≡ later.number = rw (← pass-is net times is later.actor actor_later) (omega (arith, (reach q later m actor_later at late_m).back)) in
        let up : LastNeed (channel_at net j) (later.number - q * pass_of times later.actor + q * (times.table.rounds * slice_index net.round later.actor)) (other.number + q * (times.table.rounds * slice_index net.round other.actor)) =
        last-up net (λ (a : ℕ). q * (times.table.rounds * slice_index net.round a)) (whole net times is q) j t.place other.actor later.actor (later.number - q * pass_of times later.actor) other.number t.source t.target t.last in
        let takes : firing_time net (record { actor = other.actor; number = other.number + q * (times.table.rounds * slice_index net.round other.actor) }) ≡ firing_time net other =
        time-shift net (λ (a : ℕ). q * (times.table.rounds * slice_index net.round a)) (whole net times is q) other.actor other.number actor_other in
        first.first j (record { actor = other.actor; number = other.number + q * (times.table.rounds * slice_index net.round other.actor) }) below (record {
          place = t.place;
          source = t.source;
          target = t.target;
          last = subst (λ (k : ℕ). LastNeed (channel_at net j) k (other.number + q * (times.table.rounds * slice_index net.round other.actor))) place up;
          moment = m;
          starts = at;
          ends = record {
            start = t.ends.start + q * times.table.period;
            starts = later-starts q other t.ends.start actor_other t.ends.starts ends_late;
            takes = omega (arith, takes, t.ends.takes, starts_then, sooner-moment q later m actor_later at late_m);
          };
        })

    pub first-sooner : IsFirstTight net i (sooner times q later) (sooner times q earlier)
    first-sooner = record {
      tight = record {
        place = step-before.place;
        source = step-before.source;
        target = step-before.target;
        last = step-before.last;
        moment = moment_of times later.actor (later.number - q * pass_of times later.actor);
        starts = sooner-starts q later m actor_later at late_m;
        ends = record {
          start = moment_of times earlier.actor (earlier.number - q * pass_of times earlier.actor);
          starts = sooner-starts q earlier l actor_earlier at_earlier late;
          takes = omega (arith, just, sooner-moment q later m actor_later at late_m, sooner-moment q earlier l actor_earlier at_earlier late, time-sooner net times is q earlier (reach q earlier l actor_earlier at_earlier late));
        };
      };
      first = none-before;
    }

  -- so has each firing of a chain
  pub tight-sooner : (q : ℕ) (from : FiringNo) (steps : List CycleStep) → IsChain net from steps → AreFirstTight net from steps → from.actor < length net.times → (l m : ℕ) → StartsAt net from.actor from.number l →
      StartsAt net (last_of from steps).actor (last_of from steps).number m → times.table.entry + q * times.table.period < l → AreFirstTight net (sooner times q from) (sooner_steps times q steps)
  tight-sooner q from [] chain tight actor l m at last late = tt
  tight-sooner q from (step ∷ steps) chain tight actor l m at last late =
      let rest = chain-starts net is.laws is.inputs step.to steps chain.1 m last in
      let fed = step-fed net is.laws is.inputs from step chain.0 rest.0 rest.1 in
      let same : l ≡ fed.0 = one-start net is.laws is.inputs from.actor from.number l fed.0 at fed.1 in
      let actor_to : step.to.actor < length net.times = subst (λ (b : ℕ). b < length net.times) (chain.0).target (is.laws.targets step.channel (chain.0).place) in (
        first-sooner q step.channel step.to from tight.0 rest.0 l actor_to actor rest.1 at late,
        tight-sooner q step.to steps chain.1 tight.1 actor_to rest.0 m rest.1 last (omega (arith, fed.2, same, late)),
      )

-- two ways, one after the other
pub tight-both : (net : Net) (from : FiringNo) (xs ys : List CycleStep) → AreFirstTight net from xs → AreFirstTight net (last_of from xs) ys → AreFirstTight net from (xs ++ ys)
tight-both net from [] ys one other = other
tight-both net from (x ∷ xs) ys one other = (one.0, tight-both net x.to xs ys one.1 other)
