use Rattle.bounded_scenarios.proofs.BoundedRatesExist.{measurable}
use Rattle.bounded_scenarios.proofs.laws.bounded_files_can_be_measured.Goals as goal

pub returns : goal.returns
returns c = λ file total ds can is within. measurable file total can ds is within
