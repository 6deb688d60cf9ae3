use Rattle.std.proofs.Common.{◌≡◌, take}
use Rattle.firing.proofs.single.rounds_of.Given as goal

abbrev pub invariant-loop-actor : goal.invariant-loop-actor
invariant-loop-actor g l = l.rounds.items ≡ take l.actor (g.F.Firing.net l.net).round
