use Rattle.std.proofs.Common.{◌≡◌, ◌++◌, map}
use Rattle.std.specs.List.{range_with_len}
use Rattle.critical.specs.Stretches.{step_at}
use Rattle.critical.proofs.steps.put_steps.Given as goal

abbrev pub invariant-loop-behind : goal.invariant-loop-behind
invariant-loop-behind l = l.steps.items ≡ l.initial.steps.items ++ map (step_at l.stretch) (range_with_len 0 l.behind)
