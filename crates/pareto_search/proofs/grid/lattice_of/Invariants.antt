use Rattle.std.proofs.Common.{take}
use Rattle.pareto_search.specs.inside.Vectors.{AreAxesOf}
use Rattle.pareto_search.proofs.grid.lattice_of.Given as goal

abbrev pub invariant-loop-channel : goal.invariant-loop-channel
invariant-loop-channel g l = AreAxesOf (g.F.Firing.net l.net).channels (take l.channel l.corner.capacities) l.axes
