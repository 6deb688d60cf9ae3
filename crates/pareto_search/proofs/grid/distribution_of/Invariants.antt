use Rattle.std.proofs.Common.{◌≡◌, take}
use Rattle.pareto_search.specs.inside.Vectors.{bounded_by}
use Rattle.pareto_search.proofs.grid.distribution_of.Given as goal

abbrev pub invariant-loop-channel : goal.invariant-loop-channel
invariant-loop-channel l = l.capacities ≡ bounded_by (take l.channel l.corner.capacities) (take l.channel l.vector)
