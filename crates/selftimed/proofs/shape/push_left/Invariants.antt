use Rattle.std.proofs.Common.{◌≡◌, ◌++◌, take}
use Rattle.selftimed.proofs.TimesLeft.{times_left}
use Rattle.selftimed.proofs.shape.push_left.Given as goal

abbrev pub invariant-loop-run : goal.invariant-loop-run
invariant-loop-run l = l.row.items ≡ l.initial.row.items ++ times_left l.moment (take l.run-index l.runs)
