use Rattle.event_loops.proofs.KeptShapesFindPairs.{kept-here}
use Rattle.event_loops.proofs.search.watch_from.Goals as goal

pub returns : goal.returns
returns g c = (
  kept-here (g.F.Firing.net c.args.engine.now.net.now) c.args.engine.now.moment c.in_ok-last.last c.in_ok-last.ensures.checkpoint c.in_ok-last.ensures.moment,
  kept-here (g.F.Firing.net c.args.engine.now.net.now) c.args.engine.now.moment c.in_ok-before.before c.in_ok-before.ensures.checkpoint c.in_ok-before.ensures.moment,
)
