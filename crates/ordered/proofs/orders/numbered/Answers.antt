use Rattle.std.proofs.Common.{◌≡◌, ◌∙◌, ◌+◌, ◌≤◌, ◌<◌, ℕ, Bool, false, List, All, drop, length, sym, ap, subst, arith}
use Rattle.std.proofs.lemmas.List.{get_or-replicate, take_at}
use Rattle.std.proofs.lemmas.Result.{err_from_is_err_and}
use Rattle.ordered.specs.OrderedNets.{is_named}
use Rattle.ordered.specs.NamedOrders.{Tells, entries_fault, order_fault, order_of}
use Rattle.ordered.specs.inside.Marks.{is_marked}
use Rattle.ordered.proofs.FirstFaultIsTold.{list-whole, list-faulty, lists-over, list-pushed, marks-more, order_fault-alike}
use Rattle.ordered.proofs.orders.numbered.Goals as goal

pub returns-clause-whole : goal.returns-clause-whole
returns-clause-whole c = sym c.loop-list.invariant.1 ∙ lists-over c.args.actors.now c.args.lists.now c.loop-list.list-index c.loop-list.orders.lists c.loop-list-test.false

pub loop-list-preserved : goal.loop-list-preserved
loop-list-preserved c =
    let is : c.in_ok-order.order ≡ order_of c.args.actors.now c.list-item.result = c.in_ok-order.ensures.found ∙ ap (order_of c.args.actors.now) c.as_slice-names.ensures in
    let alike = order_fault-alike c.args.actors.now (is_named c.loop-list.orders.lists) (is_marked c.loop-list.marks.items) c.loop-list.invariant.3 c.list-item.result in
    let whole = sym alike ∙ (ap (λ (ms : List Bool). order_fault c.args.actors.now (is_marked ms) c.list-item.result) (sym c.as_slice.ensures.value)
    ∙ (ap (order_fault c.args.actors.now (is_marked c.as_slice.result.now)) (sym c.as_slice-names.ensures) ∙ c.in_ok-order.ensures.whole)) in
    let size : length c.mark.new.marks ≡ c.loop-list.marks.len = omega (arith, c.mark.auto.marks, c.deref_mut.ensures.len) in
    let kept = take_at c.mark.new.marks _ c.loop-list.marks.len size in
    let many : length c.mark.new.marks ≡ length c.args.actors.now = omega (arith, c.mark.auto.marks, ap length c.deref_mut.ensures.value, c.loop-list.invariant.2) in (
      c.in_ok-push.ensures.ok ∙ list-pushed c.args.actors.now c.args.lists.now c.loop-list.list-index c.loop-list.orders.lists c.list-item.result c.in_ok-order.order c.loop-list-test.true c.list-item.is is c.loop-list.invariant.0,
      ap (λ (os : List (List ℕ)). entries_fault c.args.actors.now os (drop (c.loop-list.list-index + 1) c.args.lists.now)) c.in_ok-push.ensures.ok
          ∙ (list-whole c.args.actors.now c.args.lists.now c.loop-list.list-index c.loop-list.orders.lists c.list-item.result c.in_ok-order.order c.loop-list-test.true c.list-item.is is whole ∙ c.loop-list.invariant.1),
      ap length kept ∙ many,
      λ a below. ap (λ (ms : List Bool). is_marked ms a) kept ∙ marks-more c.loop-list.marks.items c.deref_mut.result.now c.mark.new.marks c.loop-list.orders.lists c.push.new.self c.in_ok-order.order c.as_slice-in-loop-list.result.now a
          c.deref_mut.ensures.value c.as_slice-in-loop-list.ensures c.in_ok-push.ensures.ok (c.loop-list.invariant.3 a below) (c.mark.ensures a (omega (arith, ap length c.deref_mut.ensures.value, c.loop-list.invariant.2))),
    )

pub returns-in_err-order-clause-fault : goal.returns-in_err-order-clause-fault
returns-in_err-order-clause-fault c =
    let p = err_from_is_err_and c.from_residual-in_err-order.result c.from_residual-in_err-order.ensures.1 in
    let alike = order_fault-alike c.args.actors.now (is_named c.loop-list.orders.lists) (is_marked c.loop-list.marks.items) c.loop-list.invariant.3 c.list-item.result in
    let told = subst (λ (ms : List Bool). Tells c.in_err-order.field-0.0 (order_fault c.args.actors.now (is_marked ms) c.list-item.result)) c.as_slice.ensures.value
    (subst (λ (list : List (List ℕ)). Tells c.in_err-order.field-0.0 (order_fault c.args.actors.now (is_marked c.as_slice.result.now) list)) c.as_slice-names.ensures c.in_err-order.ensures.fault) in
    let tells = list-faulty c.args.actors.now c.args.lists.now c.loop-list.list-index c.in_err-order.field-0.0 c.loop-list.orders.lists c.list-item.result c.loop-list-test.true c.list-item.is (subst (Tells c.in_err-order.field-0.0) alike told) in
    rw (p.1, p.2) (subst (Tells c.in_err-order.field-0.0) c.loop-list.invariant.1 tells)

pub mark-requires : goal.mark-requires
mark-requires c =
    let many : length c.args.actors.now ≡ length c.deref_mut.result.now = omega (arith, ap length c.deref_mut.ensures.value, c.loop-list.invariant.2) in
    subst (λ (xs : List ℕ). All (λ a. a < length c.deref_mut.result.now) xs) (sym c.as_slice-in-loop-list.ensures)
    (subst (λ (n : ℕ). All (λ a. a < n) c.in_ok-order.order) many c.in_ok-order.ensures.actors)
