use Rattle.firing.specs.declared.sums.Port.TheVariants.{Made, Taken}
use Rattle.firing.proofs.PortSums.{rates-small}
use Rattle.firing.proofs.sums.sum_before.Goals as goal

pub returns-in-Made-clause-small : goal.returns-in-Made-clause-small
returns-in-Made-clause-small g c = rw c.made_before.ensures (rates-small (g.F.Firing.net c.args.net.now) c.know_laws.ensures Made c.args.channel c.args.phases c.requires.channel)

pub returns-in-Taken-clause-small : goal.returns-in-Taken-clause-small
returns-in-Taken-clause-small g c = rw c.taken_before.ensures (rates-small (g.F.Firing.net c.args.net.now) c.know_laws.ensures Taken c.args.channel c.args.phases c.requires.channel)
