use Rattle.std.proofs.Common.{◌≡◌, map, take}
use Rattle.cert_maker.specs.Links.{link_step}
use Rattle.cert_maker.proofs.links.steps.Given as goal

abbrev pub invariant-loop-step : goal.invariant-loop-step
invariant-loop-step g l = l.links.items ≡ map (link_step (g.F.Firing.net l.net)) (take l.step-index l.steps)
