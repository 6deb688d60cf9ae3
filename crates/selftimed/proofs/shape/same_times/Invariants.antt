use Rattle.std.proofs.Common.{◌≡◌, ◌≤◌, length, take}
use Rattle.selftimed.proofs.TimesLeft.{times_left}
use Rattle.selftimed.proofs.shape.same_times.Given as goal

abbrev pub invariant-loop-run : goal.invariant-loop-run
invariant-loop-run l = record {
  within : l.place ≤ length l.times;
  same : times_left l.moment (take l.run-index l.runs) ≡ take l.place l.times;
}
