use Rattle.std.proofs.Common.{take}
use Rattle.covers.specs.inside.Taken.{AreApart}
use Rattle.covers.proofs.least.is_apart.Given as goal

abbrev pub invariant-loop-cap : goal.invariant-loop-cap
invariant-loop-cap l = AreApart l.lattice l.node l.taken (take l.cap-index l.cap-items)
