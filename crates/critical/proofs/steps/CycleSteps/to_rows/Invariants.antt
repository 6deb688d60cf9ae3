use Rattle.std.proofs.Common.{◌≡◌, take}
use Rattle.std.specs.Prelude.{flat_map}
use Rattle.critical.specs.Stretches.{steps_in}
use Rattle.critical.proofs.steps.CycleSteps.to_rows.Given as goal

abbrev pub invariant-loop-stretch : goal.invariant-loop-stretch
invariant-loop-stretch l = l.steps.items ≡ flat_map steps_in (take l.stretch-index l.stretch-items)
