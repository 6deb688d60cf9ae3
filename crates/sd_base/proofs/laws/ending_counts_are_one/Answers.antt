use Rattle.sd_base.proofs.LawfulIsRegular.{wired}
use Rattle.sd_base.proofs.ClosedCountsBoundRuns.{one_end, end-least}
use Rattle.sd_base.proofs.laws.ending_counts_are_one.Goals as goal

pub returns-clause-one : goal.returns-clause-one
returns-clause-one c = λ net v w laws. one_end net (wired net laws) v w

pub returns-clause-least : goal.returns-clause-least
returns-clause-least c = λ net v w laws. end-least net (wired net laws) v w
