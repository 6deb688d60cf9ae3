use Rattle.std.proofs.Common.{◌≡◌, ◌++◌, All, take}
use Rattle.std.specs.String.{string_bytes}
use Rattle.std.specs.List.{flat_map}
use Rattle.cert_text.specs.CycleLines.{step_line}
use Rattle.cert_text.proofs.writing.cycles.put_steps.Given as goal
use Rattle.cert_text.specs.Limits.{IsStepWithin}

abbrev pub invariant-loop-step : goal.invariant-loop-step
invariant-loop-step l = record { text : string_bytes l.text ≡ string_bytes l.initial.text ++ flat_map step_line (take l.step-index l.steps); within : All IsStepWithin (take l.step-index l.steps) }
