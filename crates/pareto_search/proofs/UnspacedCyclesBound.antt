-- A need cycle on no free space bounds the rate of each distribution, whatever the capacities.
use Rattle.std.proofs.Common.{◌≡◌, ℕ, suc, ◌+◌, ◌*◌, ◌≤◌, ◌<◌, Option, List, [], ◌∷◌, length, ⊎_elim, sym, ap, ◌∙◌, subst, arith, mul-le-mul_left}
use Rattle.std.proofs.Math.Nat.{le_of_mul-le-mul_left}
use Rattle.std.proofs.lemmas.Bool.{cases_lt}
use Rattle.sd_base.specs.declared.numbers.Fraction.{Fraction}
use Rattle.sd_base.specs.declared.role.Role.TheVariants.{Space}
use Rattle.sd_base.specs.Net.{Channel, Net, channel_at}
use Rattle.sd_base.specs.Schedules.{LastNeed}
use Rattle.critical.specs.declared.cycle.FiringNo.{FiringNo}
use Rattle.critical.specs.declared.cycle.CycleStep.{CycleStep}
use Rattle.critical.specs.declared.cycle.NeedCycle.{NeedCycle}
use Rattle.critical.specs.Bounds.{CyclesBoundTheRate}
use Rattle.critical.specs.Cycles.{HoldsOn, IsChain, IsStep}
use Rattle.critical.specs.Spaces.{IsSpaceAt}
use Rattle.storage.specs.BoundedNets.{bound}
use Rattle.storage.proofs.SpaceChannels.{SpaceAt, bound-back, bound-front, bound-long}
use Rattle.critical.specs.Unspaced.{IsUnspaced}
use Rattle.pareto_search.specs.inside.Ceilings.{BoundsAll}

module _ (net : Net) (ds es : List (Option ℕ)) where
  -- a channel that is no free space is one of the net itself
  own-channel : (i : ℕ) → i < length (bound net ds).channels → ((c : ℕ) → ¬ ((channel_at (bound net ds) i).role ≡ Space c)) → i < length net.channels
  own-channel i below none =
      ⊎_elim
      (λ (here : i < length net.channels). here)
      (λ (later : length net.channels ≤ i).
      let at : SpaceAt 0 net.channels ds (channel_at (bound net ds) i) = bound-back net ds i later below in
      absurd (none (0 + at.place) (ap (λ (x : Channel). x.role) at.is)))
      (cases_lt i (length net.channels))

  step-holds : (from : FiringNo) (step : CycleStep) → IsStep (bound net ds) from step → ((c : ℕ) → ¬ ((channel_at (bound net ds) step.channel).role ≡ Space c)) → IsStep (bound net es) from step
  step-holds from step is none =
      let here : step.channel < length net.channels = own-channel step.channel is.place none in
      let same : channel_at (bound net ds) step.channel ≡ channel_at (bound net es) step.channel = bound-front net ds step.channel here ∙ sym (bound-front net es step.channel here) in
      record {
        place = omega (arith, here, bound-long net es);
        source = subst (λ (c : Channel). c.source ≡ from.actor) same is.source;
        target = subst (λ (c : Channel). c.target ≡ step.to.actor) same is.target;
        last = subst (λ (c : Channel). LastNeed c step.to.number from.number) same is.last;
      }

  chain-holds : (from : FiringNo) (steps : List CycleStep) → IsChain (bound net ds) from steps → ((i c : ℕ) → i < length steps → ¬ IsSpaceAt (bound net ds) steps i c) → IsChain (bound net es) from steps
  chain-holds from [] chain none = tt
  chain-holds from (step ∷ steps) chain none = (
    step-holds from step chain.0 (λ c role. none 0 c (omega arith) role),
    chain-holds step.to steps chain.1 (λ i c below role. none (suc i) c (omega arith) role),
  )

  pub holds-for-all : (cycle : NeedCycle) → IsUnspaced (bound net ds) cycle → HoldsOn (bound net es) cycle
  holds-for-all cycle is = record {
    some_step = is.holds.some_step;
    some_round = is.holds.some_round;
    chain = chain-holds cycle.first cycle.steps is.holds.chain is.none;
    actor = is.holds.actor;
    number = is.holds.number;
    time = is.holds.time;
  }

-- so it bounds the rate of each distribution
pub bounds-all : CyclesBoundTheRate → (net : Net) (ds : List (Option ℕ)) (cycle : NeedCycle) (rate : Fraction) → IsUnspaced (bound net ds) cycle → cycle.rounds * rate.den ≡ rate.num * cycle.time → BoundsAll net rate
bounds-all facts net ds cycle rate is same es p q laws other =
    let bound_by : p * cycle.time ≤ cycle.rounds * q = facts (bound net es) cycle p q laws (holds-for-all net ds es cycle is) other in
    let up : rate.num * (p * cycle.time) ≤ rate.num * (cycle.rounds * q) = mul-le-mul_left rate.num bound_by in
    let turned : p * (cycle.rounds * rate.den) ≡ p * (rate.num * cycle.time) = ap (λ (x : ℕ). p * x) same in
    let scaled : cycle.rounds * (p * rate.den) ≤ cycle.rounds * (rate.num * q) = omega arith in
    le_of_mul-le-mul_left scaled is.holds.some_round
