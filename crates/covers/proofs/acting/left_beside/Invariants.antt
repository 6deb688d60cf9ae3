use Rattle.std.proofs.Common.{take}
use Rattle.covers.specs.inside.Leaving.{AreLeft}
use Rattle.covers.proofs.acting.left_beside.Given as goal

abbrev pub invariant-loop-place : goal.invariant-loop-place
invariant-loop-place l = AreLeft l.best l.bounds l.bound (take l.place-index l.acting) l.left.items
