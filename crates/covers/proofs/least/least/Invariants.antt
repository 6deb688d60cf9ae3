use Rattle.std.proofs.Common.{◌≡◌, length}
use Rattle.covers.proofs.ApartBoundsAddUp.{IsPaid}
use Rattle.covers.proofs.least.least.Given as goal

abbrev pub invariant-loop-toll : goal.invariant-loop-toll
invariant-loop-toll l = record { long : length l.taken ≡ length l.node.lo.items; paid : IsPaid l.lattice l.bounds l.best l.node l.taken l.least }
