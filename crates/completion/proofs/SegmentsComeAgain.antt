-- A segment of needs comes again whole passes before, as often as it fits after the entry.
use Rattle.std.proofs.Common.{◌≡◌, ℕ, ◌+◌, ◌-◌, ◌*◌, ◌≤◌, ◌<◌, List, [], ◌∷◌, length, subst, sym, refl, ap, ◌∙◌, arith}
use Rattle.std.specs.Prelude.{slice_index, if◌then◌else◌, ◌==◌}
use Rattle.critical.specs.declared.cycle.FiringNo.{FiringNo}
use Rattle.critical.specs.declared.cycle.CycleStep.{CycleStep}
use Rattle.completion.specs.declared.timetable.Timetable.{Timetable}
use Rattle.sd_base.specs.Net.{Net, channel_at}
use Rattle.sd_base.specs.Schedules.{LastNeed, time_of}
use Rattle.sd_base.proofs.RoundsKeepTokens.{Whole, time-shift}
use Rattle.critical.specs.Cycles.{IsStep, IsChain, last_of}
use Rattle.critical.proofs.LaterCycles.{last-down}
use Rattle.completion.specs.Ways.{StartsAt, firing_time, time_in}
use Rattle.completion.specs.inside.Timetables.{IsTimetable, pass_of}
use Rattle.completion.specs.inside.Walks.{sum_before}
use Rattle.completion.proofs.ChainsStartInTurn.{step-fed, chain-starts}
use Rattle.completion.proofs.FiringsStartOnce.{one-start}
use Rattle.completion.proofs.TimetablesTellStarts.{pass-is, late-number}

-- the firing so many passes before
abbrev pub sooner : Timetable → ℕ → FiringNo → FiringNo
sooner times q x = record { actor = x.actor; number = x.number - q * pass_of times x.actor }

abbrev pub sooner_steps : Timetable → ℕ → List CycleStep → List CycleStep
sooner_steps times q [] = []
sooner_steps times q (step ∷ steps) = record { channel = step.channel; to = sooner times q step.to } ∷ sooner_steps times q steps

-- a firing has so many passes before it
pub record Reaches (net : Net) (times : Timetable) (q : ℕ) (x : FiringNo) : Type 0 where
  pub actor : x.actor < length net.times
  pub back : q * pass_of times x.actor ≤ x.number

-- so has each firing of a chain
abbrev pub AllReach : Net → Timetable → ℕ → FiringNo → List CycleStep → Type 0
AllReach net times q from [] = Reaches net times q from
AllReach net times q from (step ∷ steps) = Reaches net times q from × AllReach net times q step.to steps

pub last-sooner : (times : Timetable) (q : ℕ) (from : FiringNo) (steps : List CycleStep) → last_of (sooner times q from) (sooner_steps times q steps) ≡ sooner times q (last_of from steps)
last-sooner times q from [] = refl
last-sooner times q from (step ∷ steps) = last-sooner times q step.to steps

first-reach : (net : Net) (times : Timetable) (q : ℕ) (from : FiringNo) (steps : List CycleStep) → AllReach net times q from steps → Reaches net times q from
first-reach net times q from [] all = all
first-reach net times q from (step ∷ steps) all = all.0

module _ (net : Net) (times : Timetable) (is : IsTimetable net times) where
  pub whole : (q : ℕ) → Whole net (λ (a : ℕ). q * (times.table.rounds * slice_index net.round a))
  whole q = Rattle.sd_base.proofs.LoopPasses.whole-passes net is.laws is.inputs times.table.entry times.table.period times.table.rounds times.table.before times.table.starts is.loop q

  -- who starts late enough reaches back over so many passes
  reach-here : (q : ℕ) (x : FiringNo) (l : ℕ) → x.actor < length net.times → StartsAt net x.actor x.number l → times.table.entry + q * times.table.period < l → Reaches net times q x
  reach-here q x l actor at late = record { actor = actor; back = omega (arith, late-number net times is q x.actor x.number l actor at late) }

  -- and so does what comes after it on a chain
  pub all-reach : (q : ℕ) (from : FiringNo) (steps : List CycleStep) → IsChain net from steps → from.actor < length net.times → (l m : ℕ) → StartsAt net from.actor from.number l →
      StartsAt net (last_of from steps).actor (last_of from steps).number m → times.table.entry + q * times.table.period < l → AllReach net times q from steps
  all-reach q from [] chain actor l m at last late = reach-here q from l actor at late
  all-reach q from (step ∷ steps) chain actor l m at last late =
      let rest = chain-starts net is.laws is.inputs step.to steps chain.1 m last in
      let fed = step-fed net is.laws is.inputs from step chain.0 rest.0 rest.1 in
      let same : l ≡ fed.0 = one-start net is.laws is.inputs from.actor from.number l fed.0 at fed.1 in (
        reach-here q from l actor at late,
        all-reach q step.to steps chain.1 (subst (λ (b : ℕ). b < length net.times) (chain.0).target (is.laws.targets step.channel (chain.0).place)) rest.0 m rest.1 last (omega (arith, fed.2)),
      )

  -- a step so many passes before
  pub step-sooner : (q : ℕ) (from : FiringNo) (step : CycleStep) → IsStep net from step → Reaches net times q from → Reaches net times q step.to → IsStep net (sooner times q from) (record { channel = step.channel; to = sooner times q step.to })
  step-sooner q from step one here there = record {
    place = one.place;
    source = one.source;
    target = one.target;
    last = last-down net (λ (a : ℕ). q * (times.table.rounds * slice_index net.round a)) (whole q) step.channel one.place from.actor step.to.actor (step.to.number - q * pass_of times step.to.actor) (from.number - q * pass_of times from.actor) one.source one.target
        (subst (λ (j : ℕ). LastNeed (channel_at net step.channel) j (from.number - q * pass_of times from.actor + q * (times.table.rounds * slice_index net.round from.actor))) (sym later_is)
        (subst (λ (m : ℕ). LastNeed (channel_at net step.channel) step.to.number m) (sym earlier_is) one.last));
  }
    where
      later_is : step.to.number - q * pass_of times step.to.actor + q * (times.table.rounds * slice_index net.round step.to.actor) ≡ step.to.number
      later_is = rw (← pass-is net times is step.to.actor there.actor) (omega (arith, there.back))

      earlier_is : from.number - q * pass_of times from.actor + q * (times.table.rounds * slice_index net.round from.actor) ≡ from.number
      earlier_is = rw (← pass-is net times is from.actor here.actor) (omega (arith, here.back))

  pub chain-sooner : (q : ℕ) (from : FiringNo) (steps : List CycleStep) → IsChain net from steps → AllReach net times q from steps → IsChain net (sooner times q from) (sooner_steps times q steps)
  chain-sooner q from [] chain all = tt
  chain-sooner q from (step ∷ steps) chain all =
      (step-sooner q from step chain.0 all.0 (first-reach net times q step.to steps all.1), chain-sooner q step.to steps chain.1 all.1)

  -- what doesn't change over passes sums to the same
  pub sum-sooner : (f : FiringNo → ℕ) (q : ℕ) → ((x : FiringNo) → Reaches net times q x → f (sooner times q x) ≡ f x) → (from : FiringNo) (steps : List CycleStep) → AllReach net times q from steps →
      sum_before f (sooner times q from) (sooner_steps times q steps) ≡ sum_before f from steps
  sum-sooner f q same from [] all = refl
  sum-sooner f q same from (step ∷ steps) all = omega (arith, same from all.0, sum-sooner f q same step.to steps all.1)

  pub time-sooner : (q : ℕ) (x : FiringNo) → Reaches net times q x → firing_time net (sooner times q x) ≡ firing_time net x
  time-sooner q x reaches =
      let place : x.number - q * pass_of times x.actor + q * (times.table.rounds * slice_index net.round x.actor) ≡ x.number = rw (← pass-is net times is x.actor reaches.actor) (omega (arith, reaches.back)) in
      let moved : time_of net x.actor (x.number - q * pass_of times x.actor + q * (times.table.rounds * slice_index net.round x.actor)) ≡ time_of net x.actor (x.number - q * pass_of times x.actor) =
      time-shift net (λ (a : ℕ). q * (times.table.rounds * slice_index net.round a)) (whole q) x.actor (x.number - q * pass_of times x.actor) reaches.actor in
      sym moved ∙ ap (time_of net x.actor) place

  pub part-sooner : (a q : ℕ) (x : FiringNo) → Reaches net times q x → time_in net a (sooner times q x) ≡ time_in net a x
  part-sooner a q x reaches = ap (λ (t : ℕ). if x.actor == a then t else 0) (time-sooner q x reaches)
