use Rattle.std.proofs.Common.{◌≡◌, ◌-◌, ◌++◌, length, replicate}
use Rattle.event_loops.proofs.collect.fill.Given as goal

abbrev pub invariant-loop-start : goal.invariant-loop-start
invariant-loop-start l = l.row ≡ l.fn.row ++ replicate (l._start - length l.fn.row) l.moment
