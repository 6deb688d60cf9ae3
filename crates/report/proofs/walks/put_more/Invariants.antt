use Rattle.std.proofs.Common.{◌≡◌, ◌++◌, drop}
use Rattle.std.specs.String.{string_bytes}
use Rattle.report.specs.WalkTexts.{more_steps}
use Rattle.report.proofs.walks.put_more.Given as goal

-- what is written and the steps that are left are what was there and all steps
abbrev pub invariant-loop-step : goal.invariant-loop-step
invariant-loop-step l =
    string_bytes l.text ++ more_steps l.graph (drop l.step-index l.steps) ≡ string_bytes l.initial.text ++ more_steps l.graph l.steps
