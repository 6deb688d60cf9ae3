use Rattle.std.proofs.Common.{arith}
use Rattle.test_pareto_search.proofs.LinksTestIncidentActors.{linked-incident}
use Rattle.test_pareto_search.proofs.checks.is_explorable.Goals as goal

pub returns : goal.returns
returns g c = λ holds.
    let net = g.F.Firing.net c.args.net.now in
    let linked = c.is_joined.ensures.linked.0 c.if-not-is_joined.false in
    c.incident_nets_are_explorable.ensures net (c.is_plain.ensures holds) (c.is_joined.ensures.joined c.if-not-is_joined.false) (linked-incident net (omega arith) linked) (omega arith)
