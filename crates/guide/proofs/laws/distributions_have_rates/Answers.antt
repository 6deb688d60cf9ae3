use Rattle.guide.proofs.RatesExist.{live-loop, rate-of}
use Rattle.guide.proofs.laws.distributions_have_rates.Goals as goal

pub returns-clause-rate : goal.returns-clause-rate
returns-clause-rate c = λ net ds laws fits. rate-of net laws ds fits

pub returns-clause-closes : goal.returns-clause-closes
returns-clause-closes c = λ net ds laws fits live. live-loop net laws ds fits live
