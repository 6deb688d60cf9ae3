use Rattle.std.proofs.Common.{take}
use Rattle.selftimed.specs.inside.EventQueues.{IsSoonest}
use Rattle.selftimed.proofs.calendar.soonest_of.Given as goal

abbrev pub invariant-loop-end : goal.invariant-loop-end
invariant-loop-end l = IsSoonest (take l.end-index l.ends) l.soonest
