use Rattle.std.proofs.Common.{arith}
use Rattle.event_loops.proofs.StartsAddUp.{adds-all}
use Rattle.event_loops.proofs.collect.add_starts.Goals as goal

pub returns : goal.returns
returns g c =
    adds-all (g.F.Firing.net c.args.engine.now.net.now) c.args.engine.now.moment c.loop-actor.actor-index c.starters-starters.result.now c.args.starts.now c.loop-actor.starts
    c.starters-starters.ensures c.requires.before (omega (arith, c.loop-actor-test.false, c.loop-actor.auto.actor-index-end)) c.loop-actor.invariant
