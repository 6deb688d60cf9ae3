use Rattle.std.proofs.Common.{take}
use Rattle.cert_checker.specs.LinkCycles.{AreAlong}
use Rattle.cert_checker.proofs.cycles.steps_along.Given as goal

abbrev pub invariant-loop-link : goal.invariant-loop-link
invariant-loop-link g l = AreAlong (g.F.Firing.net l.net) (take l.link-index l.links) l.steps
