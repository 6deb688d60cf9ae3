use Rattle.sd_base.proofs.LoopRates.{table-rate, one-rate}
use Rattle.sd_base.proofs.futures.loops_give_the_rate.Goals as goal

pub returns-clause-table : goal.returns-clause-table
returns-clause-table c = λ net entry period rounds before starts p q g laws fed table. table-rate net laws fed entry period rounds before starts table p q g

pub returns-clause-one : goal.returns-clause-one
returns-clause-one c = λ net p q x y laws. one-rate net p q x y laws
