use Rattle.std.proofs.Common.{◌-◌, length}
use Rattle.critical.specs.inside.Trails.{met_at}
use Rattle.critical.proofs.FiringsCanBeLowered.{LeastBelow}
use Rattle.critical.proofs.closing.least_rounds.Given as goal

abbrev pub invariant-loop-i : goal.invariant-loop-i
invariant-loop-i g l = LeastBelow (g.F.Firing.net l.net) l.table l.met l.from (met_at l.met (length l.met - 1)).passes l.least l.i
