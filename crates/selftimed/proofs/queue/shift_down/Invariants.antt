use Rattle.selftimed.proofs.RunsShiftForward.{Shifted}
use Rattle.selftimed.proofs.queue.shift_down.Given as goal

abbrev pub invariant-loop-place : goal.invariant-loop-place
invariant-loop-place l = Shifted l.initial.runs l.runs l.from l.place
