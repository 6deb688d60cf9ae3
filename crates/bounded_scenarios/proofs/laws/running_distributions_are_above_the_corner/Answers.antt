use Rattle.bounded_scenarios.proofs.AboveCorner.{above-corner}
use Rattle.bounded_scenarios.proofs.laws.running_distributions_are_above_the_corner.Goals as goal

pub returns : goal.returns
returns c = λ file total corner ds p q can is_corner is within rate some. above-corner file total can corner ds p q is_corner is within rate some
