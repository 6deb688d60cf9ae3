use Rattle.std.proofs.Common.{[], sym, ◌∙◌, refl, arith}
use Rattle.std.proofs.lemmas.Bool.{false≢true}
use Rattle.std.proofs.lemmas.List.{get_or_default}
use Rattle.selftimed.specs.inside.Actors.{idle}
use Rattle.selftimed.proofs.ShapesFollowActors.{past-at, remaining-differ, remaining-same}
use Rattle.selftimed.proofs.shape.same_remaining.Goals as goal

pub same_running_times-requires : goal.same_running_times-requires
same_running_times-requires c =
    past-at c.args.moment c.args.actors.now c.loop-actor.actor c.index-actors-actor.result c.index-actors-actor.result.running c.requires c.loop-actor-test.true (get_or_default c.args.actors.now c.loop-actor.actor idle c.index-actors-actor.result c.loop-actor-test.true ∙ sym c.index-actors-actor.is) refl

pub returns-then-not-same_running_times : goal.returns-then-not-same_running_times
returns-then-not-same_running_times c = (
  λ not. absurd (false≢true not),
  λ same. absurd (remaining-differ c.args.moment c.args.actors.now c.args.remaining.now c.loop-actor.actor c.index-actors-actor.result c.index-actors-actor.result.running c.as_slice.result.now
      c.loop-actor-test.true (omega (arith, c.loop-actor-test.true, c.if-remaining-actors.false)) (get_or_default c.args.actors.now c.loop-actor.actor idle c.index-actors-actor.result c.loop-actor-test.true ∙ sym c.index-actors-actor.is) refl (get_or_default c.args.remaining.now c.loop-actor.actor [] c.index-remaining-actor.result (omega (arith, c.loop-actor-test.true, c.if-remaining-actors.false)) ∙ (sym c.index-remaining-actor.is ∙ sym c.as_slice.ensures)) (λ e. false≢true (c.if-not-same_running_times.ensures.1 e)) same),
)

pub loop-actor-preserved : goal.loop-actor-preserved
loop-actor-preserved c = remaining-same c.args.moment c.args.actors.now c.args.remaining.now c.loop-actor.actor c.index-actors-actor.result c.index-actors-actor.result.running c.as_slice.result.now
    c.loop-actor-test.true (omega (arith, c.loop-actor-test.true, c.if-remaining-actors.false)) (get_or_default c.args.actors.now c.loop-actor.actor idle c.index-actors-actor.result c.loop-actor-test.true ∙ sym c.index-actors-actor.is) refl (get_or_default c.args.remaining.now c.loop-actor.actor [] c.index-remaining-actor.result (omega (arith, c.loop-actor-test.true, c.if-remaining-actors.false)) ∙ (sym c.index-remaining-actor.is ∙ sym c.as_slice.ensures)) c.loop-actor.invariant (c.if-not-same_running_times.ensures.0 refl)
