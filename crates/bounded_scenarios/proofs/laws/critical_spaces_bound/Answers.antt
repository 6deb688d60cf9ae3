use Rattle.bounded_scenarios.proofs.LiveMembers.{live-bounds}
use Rattle.bounded_scenarios.proofs.laws.critical_spaces_bound.Goals as goal

pub returns : goal.returns
returns c = live-bounds
