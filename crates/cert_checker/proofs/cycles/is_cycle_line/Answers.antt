use Rattle.cert_checker.proofs.LinksFixSteps.{line-decides}
use Rattle.cert_checker.proofs.cycles.is_cycle_line.Goals as goal

pub returns-in-Some : goal.returns-in-Some
returns-in-Some g c = line-decides (g.F.Firing.net c.args.net.now) c.know_laws.ensures c.args.rate c.args.links.now c.in-Some.steps (rw (c.as_slice.ensures, c.in-Some.is) at c.in_ok-steps_along.ensures) c.is_cycle.result c.is_cycle.ensures
