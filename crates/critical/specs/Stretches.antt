-- Steps along one channel to firings that follow each other.
use Rattle.std.specs.Prelude.{ℕ, ◌+◌, List, map}
use Rattle.std.specs.List.{range_with_len}
use Rattle.critical.specs.declared.cycle.CycleStep.{CycleStep}
use Rattle.critical.specs.declared.stretch.Stretch.{Stretch}

-- the step that is so many behind the first one of a stretch
abbrev pub step_at : Stretch → ℕ → CycleStep
step_at s behind = record { channel = s.channel; to = record { actor = s.actor; number = s.number + behind } }

-- the steps of a stretch
abbrev pub steps_in : Stretch → List CycleStep
steps_in s = map (step_at s) (range_with_len 0 s.count)
