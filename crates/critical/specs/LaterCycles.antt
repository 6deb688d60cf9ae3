-- Need cycles whole rounds later.
use Rattle.std.specs.Prelude.{ℕ, ◌+◌, ◌*◌, ◌↔◌, List, [], ◌∷◌, slice_index}
use Rattle.critical.specs.declared.cycle.FiringNo.{FiringNo}
use Rattle.critical.specs.declared.cycle.CycleStep.{CycleStep}
use Rattle.critical.specs.declared.cycle.NeedCycle.{NeedCycle}
use Rattle.sd_base.specs.Net.{Net}
use Rattle.sd_base.specs.Lawful.{Lawful}
use Rattle.critical.specs.Cycles.{HoldsOn}

-- the firing of the same actor n rounds later
abbrev pub later_firing : Net → ℕ → FiringNo → FiringNo
later_firing net n x = record { actor = x.actor; number = x.number + n * slice_index net.round x.actor }

abbrev pub later_steps : Net → ℕ → List CycleStep → List CycleStep
later_steps net n [] = []
later_steps net n (step ∷ steps) = record { channel = step.channel; to = later_firing net n step.to } ∷ later_steps net n steps

-- the cycle with all its firings n rounds later
abbrev pub later_cycle : Net → ℕ → NeedCycle → NeedCycle
later_cycle net n cycle = record { time = cycle.time; rounds = cycle.rounds; first = later_firing net n cycle.first; steps = later_steps net n cycle.steps }

-- a need cycle holds exactly where it holds any rounds later
abbrev pub CyclesHoldByRounds : Type 0
CyclesHoldByRounds = (net : Net) (cycle : NeedCycle) (n : ℕ) → Lawful net → HoldsOn net cycle ↔ HoldsOn net (later_cycle net n cycle)
