use Rattle.std.proofs.Common.{◌≡◌, map, take}
use Rattle.pareto_search.specs.inside.Learning.{cap_of}
use Rattle.pareto_search.proofs.learning.bound_of.Given as goal

abbrev pub invariant-loop-channel : goal.invariant-loop-channel
invariant-loop-channel l = l.caps ≡ map (cap_of l.capacities) (take l.channel-index l.channel-items)
