use Rattle.std.proofs.Common.{◌<◌, length, arith}
use Rattle.firing.proofs.SingleCopies.{times-more}
use Rattle.firing.proofs.single.times_of.Goals as goal

pub loop-actor-preserved : goal.loop-actor-preserved
loop-actor-preserved g c =
    let actor : c.loop-actor.actor < length (g.F.Firing.net c.args.net.now).times = omega (arith, c.loop-actor-test.true, c.actors-actor-end.ensures) in
    times-more (g.F.Firing.net c.args.net.now).times c.loop-actor.times.items c.push.new.self.items c.loop-actor.actor c.time.result actor (c.requires c.loop-actor.actor actor) c.time.ensures c.in_ok-push.ensures.items c.loop-actor.invariant
