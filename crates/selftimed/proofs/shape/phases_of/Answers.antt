use Rattle.std.proofs.Common.{sym, ◌∙◌, ◌<◌, length, arith}
use Rattle.std.proofs.lemmas.List.{get_or_default}
use Rattle.selftimed.specs.inside.Actors.{idle}
use Rattle.selftimed.proofs.ShapesFollowActors.{phases-more}
use Rattle.selftimed.proofs.shape.phases_of.Goals as goal

pub loop-actor-preserved : goal.loop-actor-preserved
loop-actor-preserved g c =
    let actor : c.loop-actor.actor < length (g.F.Firing.net c.args.net.now).times = omega (arith, c.loop-actor-test.true, c.actors-actor-end.ensures) in
    let place : c.loop-actor.actor < length c.args.actors.now = omega (arith, c.requires) in
    phases-more (g.F.Firing.net c.args.net.now) c.args.actors.now c.loop-actor.actor c.phase_of.result c.index-actors-actor.result (get_or_default c.args.actors.now c.loop-actor.actor idle c.index-actors-actor.result place ∙ sym c.index-actors-actor.is) c.phase_of.ensures
    c.loop-actor.rows c.push.new.self c.loop-actor.invariant c.in_ok-push.ensures.ok
