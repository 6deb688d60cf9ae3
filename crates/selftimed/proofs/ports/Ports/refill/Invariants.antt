use Rattle.selftimed.specs.inside.Ports.{ArePortsBelow}
use Rattle.selftimed.proofs.ports.Ports.refill.Given as goal

abbrev pub invariant-loop-actor : goal.invariant-loop-actor
invariant-loop-actor g l = ArePortsBelow (g.F.Firing.net l.wired.net.now) l.self l.actor
