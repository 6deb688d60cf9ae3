use Rattle.std.proofs.Common.{◌≡◌, map, take}
use Rattle.firing.specs.Wiring.{actor_at}
use Rattle.firing.proofs.wiring.ends_at.Given as goal

abbrev pub invariant-loop-channel : goal.invariant-loop-channel
invariant-loop-channel g l = l.ends.items ≡ map (actor_at l.port) (take l.channel (g.F.Firing.net l.net).channels)
