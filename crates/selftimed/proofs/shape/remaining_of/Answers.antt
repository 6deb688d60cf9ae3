use Rattle.std.proofs.Common.{sym, refl, ◌∙◌}
use Rattle.std.proofs.lemmas.List.{get_or_default}
use Rattle.selftimed.specs.inside.Actors.{idle}
use Rattle.selftimed.proofs.ShapesFollowActors.{past-at, remaining-more}
use Rattle.selftimed.proofs.shape.remaining_of.Goals as goal

pub times_of-requires : goal.times_of-requires
times_of-requires c =
    past-at c.args.moment c.args.actors.now c.loop-state.state-index c.state-item.result c.state-item.result.running c.requires c.loop-state-test.true (get_or_default c.args.actors.now c.loop-state.state-index idle c.state-item.result c.loop-state-test.true ∙ sym c.state-item.is) refl

pub loop-state-preserved : goal.loop-state-preserved
loop-state-preserved c =
    remaining-more c.args.moment c.args.actors.now c.loop-state.state-index c.state-item.result c.state-item.result.running c.in_ok-times_of.field-0 c.loop-state.rows c.push.new.self c.loop-state-test.true (get_or_default c.args.actors.now c.loop-state.state-index idle c.state-item.result c.loop-state-test.true ∙ sym c.state-item.is) refl c.in_ok-times_of.ensures c.loop-state.invariant c.in_ok-push.ensures.ok
