-- What the firings of some rounds need are firings of these rounds.
use Rattle.std.proofs.Common.{◌≡◌, ℕ, ◌+◌, ◌*◌, ◌/◌, ◌%◌, ◌≤◌, ◌<◌, List, [], ◌∷◌, length, ⊎_elim, subst, sym, arith, div-add-mod', mul-le-mul_right}
use Rattle.std.specs.Prelude.{slice_index}
use Rattle.std.proofs.lemmas.Bool.{cases_lt}
use Rattle.critical.specs.declared.cycle.FiringNo.{FiringNo}
use Rattle.critical.specs.declared.cycle.CycleStep.{CycleStep}
use Rattle.sd_base.specs.Net.{Net, channel_at}
use Rattle.sd_base.specs.Schedules.{LastNeed}
use Rattle.sd_base.specs.Lawful.{Lawful}
use Rattle.sd_base.proofs.LawfulIsRegular.{wired, balanced}
use Rattle.sd_base.proofs.RoundsKeepTokens.{need-by_rounds}
use Rattle.sd_base.proofs.LastNeedsSuffice.{last-is_need}
use Rattle.critical.specs.Cycles.{IsStep, IsChain, last_of}
use Rattle.completion.specs.Ways.{AreInRounds, InRounds}

module _ (net : Net) (laws : Lawful net) (n : ℕ) where
  pub need-within : (i j p : ℕ) → i < length net.channels → LastNeed (channel_at net i) j p → InRounds net n (channel_at net i).target j → InRounds net n (channel_at net i).source p
  need-within i j p place last within =
      let g : ℕ = slice_index net.round (channel_at net i).target in
      let h : ℕ = slice_index net.round (channel_at net i).source in
      let some : p + 1 ≤ (j / g + 1) * h = need-by_rounds net (wired net laws) (balanced net laws) i j (p + 1) place (last-is_need (channel_at net i) j p last) in
      let split : j / g * g + j % g ≡ j = div-add-mod' j g in
      let few : j / g < n = ⊎_elim (λ (less : j / g < n). less)
      (λ (more : n ≤ j / g). absurd (let le : n * g ≤ j / g * g = mul-le-mul_right g more in omega (arith, within.1)))
      (cases_lt (j / g) n) in
      let all : (j / g + 1) * h ≤ n * h = mul-le-mul_right h (omega arith) in
      (laws.sources i place, omega arith)

  pub step-within : (from : FiringNo) (step : CycleStep) → IsStep net from step → InRounds net n step.to.actor step.to.number → InRounds net n from.actor from.number
  step-within from step one within =
      subst (λ (b : ℕ). InRounds net n b from.number) one.source
      (need-within step.channel step.to.number from.number one.place one.last (subst (λ (b : ℕ). InRounds net n b step.to.number) (sym one.target) within))

  first-within : (from : FiringNo) (steps : List CycleStep) → AreInRounds net n from steps → InRounds net n from.actor from.number
  first-within from [] within = within
  first-within from (step ∷ steps) within = within.0

  -- so is each firing of a chain that ends in them
  pub chain-within : (from : FiringNo) (steps : List CycleStep) → IsChain net from steps → InRounds net n (last_of from steps).actor (last_of from steps).number → AreInRounds net n from steps
  chain-within from [] chain last = last
  chain-within from (step ∷ steps) chain last =
      let rest = chain-within step.to steps chain.1 last in
      (step-within from step chain.0 (first-within step.to steps rest), rest)

  pub head-within : (from : FiringNo) (steps : List CycleStep) → IsChain net from steps → InRounds net n (last_of from steps).actor (last_of from steps).number → InRounds net n from.actor from.number
  head-within from steps chain last = first-within from steps (chain-within from steps chain last)
