use Rattle.std.proofs.Common.{◌<◌, length, refl, arith}
use Rattle.std.specs.Prelude.{slice_index}
use Rattle.ordered.proofs.FirstFaultIsTold.{mark-more}
use Rattle.ordered.proofs.orders.mark.Goals as goal

pub loop-actor-preserved : goal.loop-actor-preserved
loop-actor-preserved c = λ a below.
    let x = slice_index c.args.order.now c.loop-actor.actor-index in
    let inside : slice_index c.args.order.now c.loop-actor.actor-index < length c.loop-actor.marks = omega (arith, c.requires c.loop-actor.actor-index 0 c.loop-actor-test.true, c.loop-actor.auto.marks) in
    mark-more c.args.marks.now c.loop-actor.marks c.args.order.now c.loop-actor.actor-index x a c.loop-actor-test.true refl inside (c.loop-actor.invariant a below)
