-- The channels on which a distribution is to be enlarged are in its guide: those on the critical cycle of a loop are storage
-- dependencies of the loop.
use Rattle.std.proofs.Common.{◌≡◌, ℕ, zero, suc, ◌+◌, ◌*◌, ◌<◌, Option, List, [], ◌∷◌, length, inl, inr, subst, sym, arith}
use Rattle.std.specs.Prelude.{Contains, slice_index}
use Rattle.sd_base.specs.declared.role.Role.TheVariants.{Space}
use Rattle.sd_base.specs.Net.{Net, channel_at}
use Rattle.sd_base.specs.Schedules.{count_of, start_of, end_of}
use Rattle.sd_base.specs.SelfTimed.{earliest}
use Rattle.firing.specs.declared.table.LoopTable.{LoopTable}
use Rattle.critical.specs.declared.cycle.FiringNo.{FiringNo}
use Rattle.critical.specs.declared.cycle.CycleStep.{CycleStep}
use Rattle.critical.specs.declared.cycle.NeedCycle.{NeedCycle}
use Rattle.critical.specs.Cycles.{IsStep, IsChain}
use Rattle.critical.specs.Spaces.{IsSpaceAt}
use Rattle.critical.proofs.ListedSpacesRise.{number-place}
use Rattle.critical.specs.CriticalCycles.{IsTight, AreTight, IsCriticalCycleOf, InSecondPass}
use Rattle.sd_base.specs.declared.numbers.Fraction.{Fraction}
use Rattle.storage.specs.BoundedNets.{bound}
use Rattle.guide.specs.declared.rating.Evaluation.{Evaluation}
use Rattle.guide.specs.declared.rating.Outcome.{Outcome}
use Rattle.guide.specs.declared.rating.Outcome.TheVariants.{Live, Blocked}
use Rattle.guide.specs.Evaluations.{IsEvaluated, IsOutcome}
use Rattle.guide.specs.Guides.{IsDependency, IsInGuide}

step-shows : (net : Net) (entry period rounds : ℕ) (from : FiringNo) (step : CycleStep) (c : ℕ) → IsStep net from step → IsTight net entry period rounds from step → (channel_at net step.channel).role ≡ Space c → IsDependency net entry period c
step-shows net entry period rounds from step c is tight role = record {
  channel = step.channel;
  place = is.place;
  role = role;
  later = tight.later;
  second = subst (λ (a : ℕ). InSecondPass net entry period a tight.later) (sym is.target) (record { started = tight.started; within = tight.within });
  tight = (tight.need, tight.last, there, just);
}
  where
    there : tight.need < count_of (earliest net (entry + 2 * period + 1)) (channel_at net step.channel).source
    there = subst (λ (a : ℕ). tight.need < count_of (earliest net (entry + 2 * period + 1)) a) (sym is.source) tight.there

    just : end_of net (earliest net (entry + 2 * period + 1)) (channel_at net step.channel).source tight.need ≡ start_of (earliest net (entry + 2 * period + 1)) (channel_at net step.channel).target tight.later
    just =
        subst (λ (a : ℕ). end_of net (earliest net (entry + 2 * period + 1)) (channel_at net step.channel).source tight.need ≡ start_of (earliest net (entry + 2 * period + 1)) a tight.later) (sym is.target)
        (subst (λ (a : ℕ). end_of net (earliest net (entry + 2 * period + 1)) a tight.need ≡ start_of (earliest net (entry + 2 * period + 1)) step.to.actor tight.later) (sym is.source) tight.just)

-- the free spaces on a chain with tight needs alone are storage dependencies
pub chain-shows : (net : Net) (entry period rounds : ℕ) (from : FiringNo) (steps : List CycleStep) → IsChain net from steps → AreTight net entry period rounds from steps → (i c : ℕ) → i < length steps → IsSpaceAt net steps i c → IsDependency net entry period c
chain-shows net entry period rounds from [] chain tight i c below space = absurd (omega arith)
chain-shows net entry period rounds from (step ∷ steps) chain tight zero c below space = step-shows net entry period rounds from step c chain.0 tight.0 space
chain-shows net entry period rounds from (step ∷ steps) chain tight (suc i) c below space = chain-shows net entry period rounds step.to steps chain.1 tight.1 i c (omega arith) space

pub cycle-shows : (net : Net) (table : LoopTable) (cycle : NeedCycle) → IsCriticalCycleOf net table cycle → (i c : ℕ) → i < length cycle.steps → IsSpaceAt net cycle.steps i c → IsDependency net table.entry table.period c
cycle-shows net table cycle critical i c below space = chain-shows net table.entry table.period table.rounds cycle.first cycle.steps critical.holds.chain critical.tight i c below space

-- what an outcome shows is in the guide
outcome-shows : (net : Net) (ds : List (Option ℕ)) (states : ℕ) (rate : Fraction) (enlarge : List ℕ) (outcome : Outcome) → IsOutcome net ds states rate enlarge outcome → (c : ℕ) → Contains enlarge c → IsInGuide net ds c
outcome-shows net ds states rate enlarge (Live table cycle) is c has =
    let number = number-place enlarge c has in
    let at = is.channels.there number.0 number.1 in
    let space : IsSpaceAt (bound net ds) cycle.steps at.0 c = subst (IsSpaceAt (bound net ds) cycle.steps at.0) number.2 at.2 in
    inr (table.entry, table.period, is.found.loop.loop, cycle-shows (bound net ds) table cycle is.critical at.0 c at.1 space)
outcome-shows net ds states rate enlarge (Blocked counts lacks) is c has =
    inl (slice_index counts, is.blocked.ends, is.blocked.blocks, (is.channels c).0 has)

pub evaluation-shows : (net : Net) (ds : List (Option ℕ)) (states : ℕ) (e : Evaluation) (c : ℕ) → IsEvaluated net ds states e → Contains e.enlarge c → IsInGuide net ds c
evaluation-shows net ds states e c is has = outcome-shows net ds states e.rate e.enlarge e.outcome is.outcome c has
