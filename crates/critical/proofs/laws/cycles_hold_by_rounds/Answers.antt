use Rattle.critical.proofs.LaterCycles.{holds-later, holds-sooner}
use Rattle.critical.proofs.laws.cycles_hold_by_rounds.Goals as goal

pub returns : goal.returns
returns c = λ net cycle n laws. (holds-later net laws n cycle, holds-sooner net laws n cycle)
