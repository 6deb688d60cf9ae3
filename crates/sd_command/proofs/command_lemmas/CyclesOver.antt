-- The cycles of a net stand over the graph that names its actors and channels.
use Rattle.std.proofs.Common.{ℕ, ◌≤◌, ◌<◌, List, [], ◌∷◌, length, subst, arith}
use Rattle.std.specs.List.{AllByRecursion}
use Rattle.std.proofs.lemmas.List.Elements.{All-from_recursion}
use Rattle.sd_base.specs.declared.tables.GraphFile.{GraphFile}
use Rattle.sd_base.specs.Lawful.{Lawful}
use Rattle.sd_base.specs.Net.{Net, channel_at}
use Rattle.critical.specs.declared.cycle.NeedCycle.{NeedCycle}
use Rattle.critical.specs.declared.cycle.CycleStep.{CycleStep}
use Rattle.critical.specs.declared.cycle.FiringNo.{FiringNo}
use Rattle.critical.specs.Cycles.{IsChain, HoldsOn}
use Rattle.report.specs.LinkTexts.{IsNamed}
use Rattle.report.specs.CycleTexts.{IsStepIn, IsCycleIn}

module _ (g : GraphFile) (net : Net) (laws : Lawful net) (over : IsNamed g net) where
  steps-over : (from : FiringNo) (steps : List CycleStep) → IsChain net from steps → AllByRecursion (IsStepIn g net) steps
  steps-over from [] chain = tt
  steps-over from (step ∷ steps) chain =
      let target : (channel_at net step.channel).target < length net.times = laws.targets step.channel chain.0.place in
      (record { channel = chain.0.place; actor = omega (arith, chain.0.target, over.actors) }, steps-over step.to steps chain.1)

  first-actor : (from : FiringNo) (steps : List CycleStep) → 1 ≤ length steps → IsChain net from steps → from.actor < length net.times
  first-actor from [] some chain = absurd (omega arith)
  first-actor from (step ∷ steps) some chain = subst (λ (a : ℕ). a < length net.times) chain.0.source (laws.sources step.channel chain.0.place)

  pub cycle-over : (cycle : NeedCycle) → HoldsOn net cycle → IsCycleIn g net cycle
  cycle-over cycle holds = record {
    first = omega (arith, first-actor cycle.first cycle.steps holds.some_step holds.chain, over.actors);
    steps = All-from_recursion (IsStepIn g net) cycle.steps (steps-over cycle.first cycle.steps holds.chain);
  }
