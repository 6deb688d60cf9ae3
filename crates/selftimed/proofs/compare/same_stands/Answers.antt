use Rattle.std.proofs.Common.{◌≡◌, ◌%◌, ◌<◌, length, refl, sym, ◌∙◌, arith, below_more}
use Rattle.std.proofs.lemmas.Bool.{false≢true}
use Rattle.std.proofs.lemmas.List.{get_or_default}
use Rattle.sd_base.specs.Schedules.{phases_at}
use Rattle.selftimed.specs.inside.Actors.{idle, started_in}
use Rattle.selftimed.proofs.ShapesFollowActors.{phase-is}
use Rattle.selftimed.proofs.ShapesAgreeByActor.{phases-agree, phases-apart}
use Rattle.selftimed.proofs.compare.same_stands.Goals as goal

pub returns-then-here-phase_of : goal.returns-then-here-phase_of
returns-then-here-phase_of g c =
    let actor : c.loop-actor.actor < length (g.F.Firing.net c.args.net.now).times = omega (arith, c.loop-actor-test.true, c.actors-actor-end.ensures) in
    let here : c.phase_of-here.result ≡ started_in c.args.left.now c.loop-actor.actor % phases_at (g.F.Firing.net c.args.net.now) c.loop-actor.actor =
    phase-is (g.F.Firing.net c.args.net.now) c.args.left.now c.loop-actor.actor c.phase_of-here.result c.index-left-actor.result (get_or_default c.args.left.now c.loop-actor.actor idle c.index-left-actor.result (omega (arith, actor, c.requires.left)) ∙ sym c.index-left-actor.is) c.phase_of-here.ensures in
    let there : c.phase_of.result ≡ started_in c.args.right.now c.loop-actor.actor % phases_at (g.F.Firing.net c.args.net.now) c.loop-actor.actor =
    phase-is (g.F.Firing.net c.args.net.now) c.args.right.now c.loop-actor.actor c.phase_of.result c.index-right-actor.result (get_or_default c.args.right.now c.loop-actor.actor idle c.index-right-actor.result (omega (arith, actor, c.requires.right)) ∙ sym c.index-right-actor.is) c.phase_of.ensures in (
      λ not. absurd (false≢true not),
      λ same. absurd (phases-apart (g.F.Firing.net c.args.net.now) c.args.left.now c.args.right.now c.loop-actor.actor actor (λ e. c.if-here-phase_of.true (here ∙ (e ∙ sym there))) same),
    )

pub loop-actor-preserved : goal.loop-actor-preserved
loop-actor-preserved g c =
    let actor : c.loop-actor.actor < length (g.F.Firing.net c.args.net.now).times = omega (arith, c.loop-actor-test.true, c.actors-actor-end.ensures) in
    let here : c.phase_of-here.result ≡ started_in c.args.left.now c.loop-actor.actor % phases_at (g.F.Firing.net c.args.net.now) c.loop-actor.actor =
    phase-is (g.F.Firing.net c.args.net.now) c.args.left.now c.loop-actor.actor c.phase_of-here.result c.index-left-actor.result (get_or_default c.args.left.now c.loop-actor.actor idle c.index-left-actor.result (omega (arith, actor, c.requires.left)) ∙ sym c.index-left-actor.is) c.phase_of-here.ensures in
    let there : c.phase_of.result ≡ started_in c.args.right.now c.loop-actor.actor % phases_at (g.F.Firing.net c.args.net.now) c.loop-actor.actor =
    phase-is (g.F.Firing.net c.args.net.now) c.args.right.now c.loop-actor.actor c.phase_of.result c.index-right-actor.result (get_or_default c.args.right.now c.loop-actor.actor idle c.index-right-actor.result (omega (arith, actor, c.requires.right)) ∙ sym c.index-right-actor.is) c.phase_of.ensures in
    below_more (λ a. started_in c.args.left.now a % phases_at (g.F.Firing.net c.args.net.now) a ≡ started_in c.args.right.now a % phases_at (g.F.Firing.net c.args.net.now) a) c.loop-actor.actor c.loop-actor.invariant (sym here ∙ (c.if-here-phase_of.false ∙ there))

pub returns : goal.returns
returns g c = (
  λ yes. phases-agree (g.F.Firing.net c.args.net.now) c.args.left.now c.args.right.now c.loop-actor.actor (omega (arith, c.loop-actor-test.false, c.actors-actor-end.ensures)) c.loop-actor.invariant,
  λ same. refl,
)
