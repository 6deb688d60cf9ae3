use Rattle.std.proofs.Common.{arith}
use Rattle.test_explore.proofs.NeighboursConnect.{joined-connected, joined-incident}
use Rattle.test_explore.proofs.checks.is_explorable.Goals as goal

pub returns-then-plain : goal.returns-then-plain
returns-then-plain g c = λ holds.
    let net = g.F.Firing.net c.args.net.now in
    let joined = c.are_joined-joined.ensures holds in
    c.incident_nets_are_explorable.ensures net (c.is_plain-plain.ensures c.if-plain.true) (joined-connected net joined) (joined-incident net (omega arith) joined) (omega arith)
