use Rattle.std.proofs.Common.{◌≡◌, take}
use Rattle.liveness.proofs.ending.whole_counts.Given as goal

abbrev pub invariant-loop-actor : goal.invariant-loop-actor
invariant-loop-actor g l = l.counts.items ≡ take l.actor (g.F.Firing.net l.net).round
