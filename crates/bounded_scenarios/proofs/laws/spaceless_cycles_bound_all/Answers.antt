use Rattle.bounded_scenarios.proofs.SpacelessCycles.{spaceless-bounds}
use Rattle.bounded_scenarios.proofs.laws.spaceless_cycles_bound_all.Goals as goal

pub returns : goal.returns
returns c = spaceless-bounds
