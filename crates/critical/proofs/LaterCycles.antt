-- Need cycles with all their firings whole rounds later.
use Rattle.std.proofs.Common.{◌≡◌, ℕ, ◌+◌, ◌*◌, ◌≤◌, ◌<◌, List, [], ◌∷◌, length, subst, sym, refl, ap, ◌∙◌, arith}
use Rattle.std.specs.Prelude.{slice_index}
use Rattle.critical.specs.declared.cycle.FiringNo.{FiringNo}
use Rattle.critical.specs.declared.cycle.CycleStep.{CycleStep}
use Rattle.critical.specs.declared.cycle.NeedCycle.{NeedCycle}
use Rattle.sd_base.specs.Net.{Net, channel_at, total}
use Rattle.sd_base.specs.Schedules.{time_of, LastNeed}
use Rattle.sd_base.specs.Lawful.{Lawful}
use Rattle.sd_base.proofs.LawfulIsRegular.{wired, balanced}
use Rattle.sd_base.proofs.RoundsKeepTokens.{Whole, whole-rounds, time-shift, made-shift, taken-shift, needs-unshift, last-shift}
use Rattle.critical.specs.Cycles.{IsChain, last_of, time_along, HoldsOn}
use Rattle.critical.specs.LaterCycles.{later_firing, later_steps, later_cycle}
use Rattle.critical.proofs.FiringsStandApart.{first-actor}

module _ (net : Net) (v : ℕ → ℕ) (whole : Whole net v) (i : ℕ) (place : i < length net.channels) where
  last-unshift : (j m : ℕ) → LastNeed (channel_at net i) (j + v (channel_at net i).target) (m + v (channel_at net i).source) → LastNeed (channel_at net i) j m
  last-unshift j m last =
      let kept : total (channel_at net i).made (v (channel_at net i).source) ≡ total (channel_at net i).taken (v (channel_at net i).target) = whole.kept i place in
      let taken_place : j + v (channel_at net i).target + 1 ≡ (j + 1) + v (channel_at net i).target = omega arith in
      let made_place : m + v (channel_at net i).source + 1 ≡ (m + 1) + v (channel_at net i).source = omega arith in
      let enough : total (channel_at net i).taken ((j + 1) + v (channel_at net i).target) ≤ (channel_at net i).tokens + total (channel_at net i).made ((m + 1) + v (channel_at net i).source) = rw taken_place at (rw made_place at last.enough) in
      record { needed = needs-unshift net v whole i place j m last.needed; enough = omega (arith, taken-shift net v whole i place (j + 1), made-shift net v whole i place (m + 1)) }

  pub last-up : (a b j m : ℕ) → (channel_at net i).source ≡ a → (channel_at net i).target ≡ b → LastNeed (channel_at net i) j m → LastNeed (channel_at net i) (j + v b) (m + v a)
  last-up a b j m from to last =
      subst (λ (y : ℕ). LastNeed (channel_at net i) (j + v y) (m + v a)) to (subst (λ (x : ℕ). LastNeed (channel_at net i) (j + v (channel_at net i).target) (m + v x)) from (last-shift net v whole i place j m last))

  pub last-down : (a b j m : ℕ) → (channel_at net i).source ≡ a → (channel_at net i).target ≡ b → LastNeed (channel_at net i) (j + v b) (m + v a) → LastNeed (channel_at net i) j m
  last-down a b j m from to last =
      last-unshift j m (subst (λ (y : ℕ). LastNeed (channel_at net i) (j + v y) (m + v (channel_at net i).source)) (sym to) (subst (λ (x : ℕ). LastNeed (channel_at net i) (j + v b) (m + v x)) (sym from) last))

module _ (net : Net) (laws : Lawful net) (n : ℕ) where
  pub rounds-whole : Whole net (λ (a : ℕ). n * slice_index net.round a)
  rounds-whole = whole-rounds net n (wired net laws) (balanced net laws)

  chain-up : (from : FiringNo) (steps : List CycleStep) → IsChain net from steps → IsChain net (later_firing net n from) (later_steps net n steps)
  chain-up from [] chain = tt
  chain-up from (step ∷ steps) chain =
      let one = chain.0 in (
        record { place = one.place; source = one.source; target = one.target; last = last-up net (λ (a : ℕ). n * slice_index net.round a) rounds-whole step.channel one.place from.actor step.to.actor step.to.number from.number one.source one.target one.last },
        chain-up step.to steps chain.1,
      )

  chain-down : (from : FiringNo) (steps : List CycleStep) → IsChain net (later_firing net n from) (later_steps net n steps) → IsChain net from steps
  chain-down from [] chain = tt
  chain-down from (step ∷ steps) chain =
      let one = chain.0 in (
        record { place = one.place; source = one.source; target = one.target; last = last-down net (λ (a : ℕ). n * slice_index net.round a) rounds-whole step.channel one.place from.actor step.to.actor step.to.number from.number one.source one.target one.last },
        chain-down step.to steps chain.1,
      )

  last-later : (from : FiringNo) (steps : List CycleStep) → last_of (later_firing net n from) (later_steps net n steps) ≡ later_firing net n (last_of from steps)
  last-later from [] = refl
  last-later from (step ∷ steps) = last-later step.to steps

  time-later : (from : FiringNo) (steps : List CycleStep) → IsChain net from steps → time_along net (later_firing net n from) (later_steps net n steps) ≡ time_along net from steps
  time-later from [] chain = refl
  time-later from (step ∷ steps) chain =
      let actor : from.actor < length net.times = first-actor net laws from (step ∷ steps) (omega arith) chain in
      let same : time_of net from.actor (from.number + n * slice_index net.round from.actor) ≡ time_of net from.actor from.number = time-shift net (λ (a : ℕ). n * slice_index net.round a) rounds-whole from.actor from.number actor in
      omega (arith, time-later step.to steps chain.1)

  length-later : (steps : List CycleStep) → length (later_steps net n steps) ≡ length steps
  length-later [] = refl
  length-later (step ∷ steps) = omega (arith, length-later steps)

  module _ (cycle : NeedCycle) where
    last-number : (last_of (later_firing net n cycle.first) (later_steps net n cycle.steps)).number ≡ (last_of cycle.first cycle.steps).number + n * slice_index net.round (last_of cycle.first cycle.steps).actor
    last-number = ap (λ (x : FiringNo). x.number) (last-later cycle.first cycle.steps)

    last-actor : (last_of (later_firing net n cycle.first) (later_steps net n cycle.steps)).actor ≡ (last_of cycle.first cycle.steps).actor
    last-actor = ap (λ (x : FiringNo). x.actor) (last-later cycle.first cycle.steps)

    pub holds-later : HoldsOn net cycle → HoldsOn net (later_cycle net n cycle)
    holds-later holds =
        let same : n * slice_index net.round (last_of cycle.first cycle.steps).actor ≡ n * slice_index net.round cycle.first.actor = ap (λ (a : ℕ). n * slice_index net.round a) holds.actor in
        record {
          some_step = omega (arith, length-later cycle.steps, holds.some_step);
          some_round = holds.some_round;
          chain = chain-up cycle.first cycle.steps holds.chain;
          actor = last-actor ∙ holds.actor;
          number = omega (arith, last-number, holds.number);
          time = holds.time ∙ sym (time-later cycle.first cycle.steps holds.chain);
        }

    pub holds-sooner : HoldsOn net (later_cycle net n cycle) → HoldsOn net cycle
    holds-sooner holds =
        let chain : IsChain net cycle.first cycle.steps = chain-down cycle.first cycle.steps holds.chain in
        let actor : (last_of cycle.first cycle.steps).actor ≡ cycle.first.actor = sym last-actor ∙ holds.actor in
        let same : n * slice_index net.round (last_of cycle.first cycle.steps).actor ≡ n * slice_index net.round cycle.first.actor = ap (λ (a : ℕ). n * slice_index net.round a) actor in
        record {
          some_step = omega (arith, length-later cycle.steps, holds.some_step);
          some_round = holds.some_round;
          chain = chain;
          actor = actor;
          number = omega (arith, last-number, holds.number);
          time = holds.time ∙ time-later cycle.first cycle.steps chain;
        }
