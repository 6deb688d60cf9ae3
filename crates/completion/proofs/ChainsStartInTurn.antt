-- The firings of a chain start one after another, so that an actor has no more of them than it starts.
use Rattle.std.proofs.Common.{◌≡◌, ℕ, ◌+◌, ◌≤◌, ◌<◌, Bool, true, false, List, [], ◌∷◌, length, subst, sym, refl, arith, eqb-true}
use Rattle.std.specs.Prelude.{if◌then◌else◌, ◌==◌}
use Rattle.critical.specs.declared.cycle.FiringNo.{FiringNo}
use Rattle.critical.specs.declared.cycle.CycleStep.{CycleStep}
use Rattle.sd_base.specs.Net.{Net}
use Rattle.sd_base.specs.Schedules.{HasInputs, count_of, time_of}
use Rattle.sd_base.specs.SelfTimed.{earliest}
use Rattle.sd_base.specs.Lawful.{Lawful}
use Rattle.sd_base.proofs.LawfulIsRegular.{regular, timed}
use Rattle.sd_base.proofs.EqualShapesRepeat.{count-rises}
use Rattle.critical.specs.Cycles.{IsStep, IsChain, last_of}
use Rattle.completion.specs.Ways.{StartsAt, firing_time, one_in, sum_along}
use Rattle.completion.specs.inside.Walks.{sum_before}
use Rattle.completion.proofs.FiringsStartOnce.{one-start, start-late, start-there, starts-fed}

module _ (net : Net) (laws : Lawful net) (inputs : HasInputs net) where
  pub step-fed : (from : FiringNo) (step : CycleStep) → IsStep net from step → (m : ℕ) → StartsAt net step.to.actor step.to.number m →
      (l : ℕ) × StartsAt net from.actor from.number l × (l + firing_time net from ≤ m)
  step-fed from step one m at =
      subst (λ (b : ℕ). (l : ℕ) × StartsAt net b from.number l × (l + time_of net b from.number ≤ m)) one.source
      (starts-fed net laws inputs step.channel step.to.number from.number m one.place (subst (λ (b : ℕ). StartsAt net b step.to.number m) (sym one.target) at) one.last)

  pub chain-starts : (from : FiringNo) (steps : List CycleStep) → IsChain net from steps → (m : ℕ) → StartsAt net (last_of from steps).actor (last_of from steps).number m →
      (l : ℕ) × StartsAt net from.actor from.number l × (l + sum_before (firing_time net) from steps ≤ m)
  chain-starts from [] chain m at = (m, at, omega arith)
  chain-starts from (step ∷ steps) chain m at =
      let rest = chain-starts step.to steps chain.1 m at in
      let fed = step-fed from step chain.0 rest.0 rest.1 in
      (fed.0, fed.1, omega (arith, fed.2, rest.2))

  -- a firing is one more start
  one-more : (a : ℕ) (x : FiringNo) (l : ℕ) → StartsAt net x.actor x.number l → one_in a x + count_of (earliest net l) a ≤ count_of (earliest net (l + 1)) a
  one-more a x l at = each (x.actor == a) refl
    where
      rise : count_of (earliest net l) a ≤ count_of (earliest net (l + 1)) a
      rise = count-rises net (regular net laws) inputs l (l + 1) (omega arith) a

      each : (b : Bool) → (x.actor == a) ≡ b → (if b then 1 else 0) + count_of (earliest net l) a ≤ count_of (earliest net (l + 1)) a
      each false is = omega (arith, rise)
      each true is =
          let same : x.actor ≡ a = eqb-true x.actor a is in
          let before : count_of (earliest net l) a ≤ x.number = subst (λ (b : ℕ). count_of (earliest net l) b ≤ x.number) same (start-late net laws inputs x.actor x.number l at) in
          let there : x.number < count_of (earliest net (l + 1)) a = subst (λ (b : ℕ). x.number < count_of (earliest net (l + 1)) b) same (start-there net laws inputs x.actor x.number l (l + 1) at (omega arith)) in
          omega arith

  some-time : (x : FiringNo) → x.actor < length net.times → 1 ≤ firing_time net x
  some-time x actor = (timed net laws).some x.actor x.number actor

  step-actor : (from : FiringNo) (step : CycleStep) → IsStep net from step → from.actor < length net.times
  step-actor from step one = subst (λ (b : ℕ). b < length net.times) one.source (laws.sources step.channel one.place)

  pub chain-count : (a : ℕ) (from : FiringNo) (steps : List CycleStep) → IsChain net from steps → (l m : ℕ) → StartsAt net from.actor from.number l → StartsAt net (last_of from steps).actor (last_of from steps).number m →
      sum_along (one_in a) from steps + count_of (earliest net l) a ≤ count_of (earliest net (m + 1)) a
  chain-count a from [] chain l m at last =
      let same : l ≡ m = one-start net laws inputs from.actor from.number l m at last in
      subst (λ (t : ℕ). one_in a from + count_of (earliest net l) a ≤ count_of (earliest net (t + 1)) a) same (one-more a from l at)
  chain-count a from (step ∷ steps) chain l m at last =
      let rest = chain-starts step.to steps chain.1 m last in
      let fed = step-fed from step chain.0 rest.0 rest.1 in
      let same : l ≡ fed.0 = one-start net laws inputs from.actor from.number l fed.0 at fed.1 in
      let takes : 1 ≤ firing_time net from = some-time from (step-actor from step chain.0) in
      let rise : count_of (earliest net (l + 1)) a ≤ count_of (earliest net rest.0) a = count-rises net (regular net laws) inputs (l + 1) rest.0 (omega (arith, fed.2)) a in
      omega (arith, one-more a from l at, chain-count a step.to steps chain.1 rest.0 m rest.1 last)
