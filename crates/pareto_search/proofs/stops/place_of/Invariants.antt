use Rattle.pareto_search.proofs.StopLists.{AllBefore}
use Rattle.pareto_search.proofs.stops.place_of.Given as goal

abbrev pub invariant-loop-place : goal.invariant-loop-place
invariant-loop-place l = AllBefore l.stops l.capacities l.place
