use Rattle.std.proofs.Common.{◌≡◌, ◌++◌, take}
use Rattle.std.specs.String.{string_bytes}
use Rattle.std.specs.List.{flat_map}
use Rattle.report.specs.CycleTexts.{step_on}
use Rattle.report.proofs.cycles.put_cycle.Given as goal

abbrev pub invariant-loop-step : goal.invariant-loop-step
invariant-loop-step g l = string_bytes l.text ≡ string_bytes l.initial.text ++ flat_map (step_on l.graph (g.F.Firing.net l.net)) (take l.step-index l.step-items)
