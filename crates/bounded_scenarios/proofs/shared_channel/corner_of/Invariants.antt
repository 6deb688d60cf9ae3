use Rattle.bounded_scenarios.proofs.MergedChannels.{CornerSoFar}
use Rattle.bounded_scenarios.proofs.shared_channel.corner_of.Given as goal

abbrev pub invariant-loop-row : goal.invariant-loop-row
invariant-loop-row l = CornerSoFar l.file.scenarios l.file.shared l.row-index l.capacities l.total
