use Rattle.std.proofs.Common.{◌∙◌, length, refl}
use Rattle.ordered.proofs.FitRates.{pair-fits}
use Rattle.ordered.proofs.PairsAreNeighbours.{pairs-all}
use Rattle.ordered.proofs.PlacesAddChannels.{pairs-pushed, pairs-whole}
use Rattle.ordered.proofs.places.push_steps.Goals as goal

pub order_channel_of-requires-clause-made : goal.order_channel_of-requires-clause-made
order_channel_of-requires-clause-made c = (pair-fits c.args.order.now c.requires c.deref-pair-items.result.now c.loop-pair.pair-index (c.deref-pair-items.ensures.value ∙ (c.in_ok-pairs.ensures ∙ pairs-all c.args.order.now (length c.args.order.now) refl)) c.loop-pair-test.true).1

pub order_channel_of-requires-clause-taken : goal.order_channel_of-requires-clause-taken
order_channel_of-requires-clause-taken c = (pair-fits c.args.order.now c.requires c.deref-pair-items.result.now c.loop-pair.pair-index (c.deref-pair-items.ensures.value ∙ (c.in_ok-pairs.ensures ∙ pairs-all c.args.order.now (length c.args.order.now) refl)) c.loop-pair-test.true).2

pub order_channel_of-requires-clause-some : goal.order_channel_of-requires-clause-some
order_channel_of-requires-clause-some c = (pair-fits c.args.order.now c.requires c.deref-pair-items.result.now c.loop-pair.pair-index (c.deref-pair-items.ensures.value ∙ (c.in_ok-pairs.ensures ∙ pairs-all c.args.order.now (length c.args.order.now) refl)) c.loop-pair-test.true).0

pub loop-pair-preserved : goal.loop-pair-preserved
loop-pair-preserved c = λ net. pairs-pushed net c.args.order.now c.args.places.now.items c.loop-pair.places.items c.push.new.self.items c.deref-pair-items.result.now c.loop-pair.pair-index c.in_ok-step.step c.loop-pair-test.true c.in_ok-step.ensures c.in_ok-push.ensures.items (c.loop-pair.invariant net)

pub returns : goal.returns
returns c = λ net. pairs-whole net c.args.order.now c.args.places.now.items c.loop-pair.places.items c.deref-pair-items.result.now c.loop-pair.pair-index (c.deref-pair-items.ensures.value ∙ (c.in_ok-pairs.ensures ∙ pairs-all c.args.order.now (length c.args.order.now) refl)) c.loop-pair-test.false (c.loop-pair.invariant net)
