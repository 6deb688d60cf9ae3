use Rattle.balance.proofs.EndsAreActors.{are-actors}
use Rattle.sd_steps.proofs.PathsConnectNets.{with-inputs}
use Rattle.sd_steps.proofs.nets.feed.Goals as goal

pub no_input-requires-clause-ends : goal.no_input-requires-clause-ends
no_input-requires-clause-ends g c = are-actors (g.F.Firing.net c.args.net.now) _ _ c.actors.ensures c.requires.ends c.know_laws.ensures

pub returns-in-None : goal.returns-in-None
returns-in-None g c = with-inputs (g.F.Firing.net c.args.net.now) _ _ c.actors.ensures c.requires.ends c.in-None.ensures
