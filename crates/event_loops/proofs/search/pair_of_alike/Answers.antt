use Rattle.std.proofs.Common.{refl}
use Rattle.std.proofs.lemmas.Bool.{false≢true}
use Rattle.event_loops.proofs.KeptShapesFindPairs.{kept-past, kept-pair}
use Rattle.event_loops.proofs.search.pair_of_alike.Goals as goal

pub returns-then-has_shape : goal.returns-then-has_shape
returns-then-has_shape g c =
    rw c.moment-later.ensures (kept-pair (g.F.Firing.net c.args.engine.now.net.now) c.args.engine.now.moment c.args.watch.now.last c.requires.watch.0 c.requires.stands.event (c.if-has_shape.ensures.0 refl))

pub returns-then-has_shape-2 : goal.returns-then-has_shape-2
returns-then-has_shape-2 g c =
    rw c.moment-later.ensures (kept-pair (g.F.Firing.net c.args.engine.now.net.now) c.args.engine.now.moment c.args.watch.now.before c.requires.watch.1 c.requires.stands.event (c.if-has_shape-2.ensures.0 refl))

pub returns : goal.returns
returns g c = (
  kept-past (g.F.Firing.net c.args.engine.now.net.now) c.args.engine.now.moment c.args.watch.now.last (λ same. false≢true (c.if-has_shape.ensures.1 same)) c.requires.watch.0,
  kept-past (g.F.Firing.net c.args.engine.now.net.now) c.args.engine.now.moment c.args.watch.now.before (λ same. false≢true (c.if-has_shape-2.ensures.1 same)) c.requires.watch.1,
)
