use Rattle.critical.proofs.UpperSides.{cycle-rate, upper-side}
use Rattle.critical.proofs.laws.cycles_bound_the_rate.Goals as goal

pub returns-clause-rate : goal.returns-clause-rate
returns-clause-rate c = λ net cycle p q laws holds rate. cycle-rate net laws cycle holds p q rate

pub returns-clause-upper : goal.returns-clause-upper
returns-clause-upper c = λ net cycle p q g laws strong holds turns time. upper-side net laws cycle holds strong p q g turns time
