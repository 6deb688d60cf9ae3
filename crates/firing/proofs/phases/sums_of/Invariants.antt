use Rattle.firing.proofs.PhaseLists.{AreSumsTo}
use Rattle.firing.proofs.phases.sums_of.Given as goal

abbrev pub invariant-loop-rate : goal.invariant-loop-rate
invariant-loop-rate l = AreSumsTo l.rates l.rate-index l.sum l.sums.items
