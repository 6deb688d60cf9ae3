use Rattle.std.proofs.Common.{◌<◌, All, take}
use Rattle.selftimed.specs.inside.EventQueues.{Entry}
use Rattle.selftimed.proofs.calendar.place_of_due.Given as goal

abbrev pub invariant-loop-place : goal.invariant-loop-place
invariant-loop-place l = All (λ (e : Entry). l.moment < e.0.0) (take l.place l.ends)
