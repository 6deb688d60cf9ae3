use Rattle.cert_checker.proofs.BestRates.{AreBestBelow}
use Rattle.cert_checker.proofs.best_rates.raised.Given as goal

abbrev pub invariant-loop-rate : goal.invariant-loop-rate
invariant-loop-rate l = AreBestBelow l.rates l.rate-index l.steps.items l.greatest
