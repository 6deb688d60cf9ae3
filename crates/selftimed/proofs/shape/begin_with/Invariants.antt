use Rattle.std.proofs.Common.{◌≡◌, replicate, take}
use Rattle.selftimed.proofs.shape.begin_with.Given as goal

abbrev pub invariant-loop-other : goal.invariant-loop-other
invariant-loop-other l = take l.other-index l.first ≡ replicate l.other-index l.time
