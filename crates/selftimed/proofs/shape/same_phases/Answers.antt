use Rattle.std.proofs.Common.{sym, ◌∙◌, ◌<◌, length, arith}
use Rattle.std.proofs.lemmas.Bool.{false≢true}
use Rattle.std.proofs.lemmas.List.{get_or_default}
use Rattle.selftimed.specs.inside.Actors.{idle}
use Rattle.selftimed.proofs.ShapesFollowActors.{phases-length, phases-differ, phases-same}
use Rattle.selftimed.proofs.shape.same_phases.Goals as goal

pub returns-then-phases-actors : goal.returns-then-phases-actors
returns-then-phases-actors g c = (λ not. absurd (false≢true not), λ same. absurd (c.if-phases-actors.true (phases-length (g.F.Firing.net c.args.net.now) c.args.actors.now c.args.phases.now c.requires same)))

pub returns-then-phase_of-phases : goal.returns-then-phase_of-phases
returns-then-phase_of-phases g c =
    let actor : c.loop-actor.actor < length (g.F.Firing.net c.args.net.now).times = omega (arith, c.loop-actor-test.true, c.actors-actor-end.ensures) in
    let place : c.loop-actor.actor < length c.args.actors.now = omega (arith, c.requires) in (
      λ not. absurd (false≢true not),
      λ same. absurd (phases-differ (g.F.Firing.net c.args.net.now) c.args.actors.now c.loop-actor.actor c.phase_of.result c.index-actors-actor.result
          (get_or_default c.args.actors.now c.loop-actor.actor idle c.index-actors-actor.result place ∙ sym c.index-actors-actor.is) c.phase_of.ensures c.args.phases.now actor c.if-phase_of-phases.true same),
    )

pub loop-actor-preserved : goal.loop-actor-preserved
loop-actor-preserved g c =
    let actor : c.loop-actor.actor < length (g.F.Firing.net c.args.net.now).times = omega (arith, c.loop-actor-test.true, c.actors-actor-end.ensures) in
    let place : c.loop-actor.actor < length c.args.actors.now = omega (arith, c.requires) in
    phases-same (g.F.Firing.net c.args.net.now) c.args.actors.now c.loop-actor.actor c.phase_of.result c.index-actors-actor.result (get_or_default c.args.actors.now c.loop-actor.actor idle c.index-actors-actor.result place ∙ sym c.index-actors-actor.is) c.phase_of.ensures
    c.args.phases.now (omega (arith, c.if-phases-actors.false)) c.loop-actor.invariant c.if-phase_of-phases.false
