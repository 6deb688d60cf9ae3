use Rattle.std.proofs.Common.{◌≡◌, ◌∙◌, ◌≤◌, ◌+◌, ℕ, List, length, take, refl, ap, subst, arith}
use Rattle.std.proofs.lemmas.List.{length-take, take_all}
use Rattle.ordered.specs.OrderedNets.{order_channels}
use Rattle.ordered.specs.inside.Steps.{pairs_from}
use Rattle.ordered.proofs.FirstFaultIsTold.{pairs-listed, pairs-grow, pairs-few, pairs-many}
use Rattle.ordered.proofs.orders.check_pairs.Goals as goal

pub returns-then-room-more-clause-fault : goal.returns-then-room-more-clause-fault
returns-then-room-more-clause-fault c =
    let all = pairs-listed c.args.orders.now.lists c.as_slice-order-items.result.now c.loop-order.order-index c.order-item.result c.as_slice.result.now (pairs_from c.as_slice.result.now 0 (length c.as_slice.result.now)) c.as_slice-order-items.ensures c.loop-order-test.true c.order-item.is c.as_slice.ensures refl in
    let some = ap length c.in_ok-found.ensures ∙ length-take _ (pairs_from c.as_slice.result.now 0 (length c.as_slice.result.now)) in
    let grow = pairs-grow c.args.orders.now.lists (c.loop-order.order-index + 1) in
    pairs-many c.args.orders.now.lists (omega (arith, all, some, grow, c.if-room-more.true, c.len-more.ensures, c.in_ok-found.found.ok.0, c.loop-order.invariant.0, c.loop-order.invariant.1))

pub loop-order-preserved : goal.loop-order-preserved
loop-order-preserved c =
    let all = pairs-listed c.args.orders.now.lists c.as_slice-order-items.result.now c.loop-order.order-index c.order-item.result c.as_slice.result.now (pairs_from c.as_slice.result.now 0 (length c.as_slice.result.now)) c.as_slice-order-items.ensures c.loop-order-test.true c.order-item.is c.as_slice.ensures refl in
    let some = ap length c.in_ok-found.ensures ∙ length-take _ (pairs_from c.as_slice.result.now 0 (length c.as_slice.result.now)) in (
      omega (arith, all, some, c.if-room-more.false, c.len-more.ensures, c.in_ok-found.found.ok.0, c.loop-order.invariant.0, c.loop-order.invariant.1),
      omega (arith, some, c.if-room-more.false, c.len-more.ensures, c.in_ok-found.found.ok.0, c.loop-order.invariant.1),
    )

pub returns-clause-whole : goal.returns-clause-whole
returns-clause-whole c =
    let grow : length (order_channels (take c.loop-order.order-index c.args.orders.now.lists)) ≡ length (order_channels c.args.orders.now.lists)
    = ap (λ (os : List (List ℕ)). length (order_channels os)) (take_all c.loop-order.order-index c.args.orders.now.lists (subst (λ (os : List (List ℕ)). length os ≤ c.loop-order.order-index) c.as_slice-order-items.ensures c.loop-order-test.false)) in
    pairs-few c.args.orders.now.lists (omega (arith, grow, c.loop-order.invariant.0, c.loop-order.invariant.1))
