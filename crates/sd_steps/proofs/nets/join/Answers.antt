use Rattle.balance.proofs.EndsAreActors.{are-actors}
use Rattle.sd_steps.proofs.PathsConnectNets.{strongly}
use Rattle.sd_steps.proofs.nets.join.Goals as goal

pub strongly_connected-requires-clause-ends : goal.strongly_connected-requires-clause-ends
strongly_connected-requires-clause-ends g c = are-actors (g.F.Firing.net c.args.net.now) _ _ c.actors.ensures c.requires.ends c.know_laws.ensures

pub returns-in-Ok : goal.returns-in-Ok
returns-in-Ok g c = strongly (g.F.Firing.net c.args.net.now) _ _ c.actors.ensures c.requires.ends c.in-Ok.ensures.connected
