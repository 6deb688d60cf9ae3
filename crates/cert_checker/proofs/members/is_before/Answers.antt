use Rattle.cert_checker.proofs.FileNets.{within-many}
use Rattle.cert_checker.proofs.members.is_before.Goals as goal

pub total-before-requires-clause-many : goal.total-before-requires-clause-many
total-before-requires-clause-many g c = within-many (g.F.Firing.net c.args.net.now) c.args.limit c.args.first.now.capacities c.requires.first

pub total-after-requires-clause-many : goal.total-after-requires-clause-many
total-after-requires-clause-many g c = within-many (g.F.Firing.net c.args.net.now) c.args.limit c.args.second.now.capacities c.requires.second
