use Rattle.bounded_scenarios.proofs.AboveCorner.{rates-are-lowest}
use Rattle.bounded_scenarios.proofs.laws.worst_rates_are_lowest.Goals as goal

pub returns : goal.returns
returns c = rates-are-lowest
