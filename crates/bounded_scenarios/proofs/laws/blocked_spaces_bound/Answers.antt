use Rattle.bounded_scenarios.proofs.BlockedMembers.{blocked-bounds}
use Rattle.bounded_scenarios.proofs.laws.blocked_spaces_bound.Goals as goal

pub returns : goal.returns
returns c = blocked-bounds
