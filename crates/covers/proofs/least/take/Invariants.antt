use Rattle.std.proofs.Common.{take}
use Rattle.covers.specs.inside.Taken.{AreTaken}
use Rattle.covers.proofs.least.take.Given as goal

abbrev pub invariant-loop-cap : goal.invariant-loop-cap
invariant-loop-cap l = AreTaken l.lattice l.node (take l.cap-index l.cap-items) l.initial.taken l.taken
