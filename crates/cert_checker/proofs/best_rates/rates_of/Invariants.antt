use Rattle.cert_checker.proofs.BestRates.{AreRates}
use Rattle.cert_checker.proofs.best_rates.rates_of.Given as goal

abbrev pub invariant-loop-point : goal.invariant-loop-point
invariant-loop-point l = AreRates l.points l.point-index l.rates.items
