use Rattle.std.proofs.Common.{◌≤◌}
use Rattle.balance.proofs.round.common_den.Given as goal
use Rattle.balance.proofs.LeastRounds.{IsCommonBelow}

abbrev pub invariant-loop-ratio : goal.invariant-loop-ratio
invariant-loop-ratio l = IsCommonBelow l.ratios l.ratio-index l.common × (l.common ≤ 100000)
