use Rattle.std.proofs.Common.{◌∙◌, ap}
use Rattle.event_loops.specs.declared.search.Checkpoint.{Checkpoint}
use Rattle.event_loops.proofs.KeptShapesFindPairs.{kept-here}
use Rattle.event_loops.proofs.search.put_checkpoint.Goals as goal

pub returns-clause-watch : goal.returns-clause-watch
returns-clause-watch g c = (
  rw c.replace.ensures.after (kept-here (g.F.Firing.net c.args.engine.now.net.now) c.args.engine.now.moment c.in_ok-next.next c.in_ok-next.ensures.checkpoint c.in_ok-next.ensures.moment),
  rw c.replace.ensures.value c.requires.watch.0,
)

pub returns-clause-last : goal.returns-clause-last
returns-clause-last g c = ap (λ (x : Checkpoint). x.moment) c.replace.ensures.after ∙ c.in_ok-next.ensures.moment

pub returns-clause-before : goal.returns-clause-before
returns-clause-before g c = c.replace.ensures.value
