use Rattle.std.proofs.Common.{◌≤◌, Some, ◌∙◌, [], List, ℕ, Bor, sym, ap, map, subst, drop, ◌+◌}
use Rattle.std.proofs.lemmas.List.{length-map}
use Rattle.sd_words.specs.OrderLists.{with_orders}
use Rattle.sd_words.proofs.BufferParts.{next-part}
use Rattle.sd_words.proofs.OrderParts.{order-none, order-new, orders-end}
use Rattle.sd_words.proofs.orders.orders_of.Goals as goal

pub returns-in_default : goal.returns-in_default
returns-in_default c =
    let next = next-part (λ (p : Bor (List ℕ)). p.now) c.deref-part-items.result.now c.loop-part.part-index (record { ref_ptr = (0, 0); now = [] }) c.loop-part-test.true in
    let none = sym c.in_ok-order.ensures ∙ c.in_default.is in
    sym (ap (with_orders c.loop-part.orders.items) next ∙ order-none _ _ _ none) ∙ c.loop-part.invariant

pub loop-part-preserved : goal.loop-part-preserved
loop-part-preserved c =
    let next = next-part (λ (p : Bor (List ℕ)). p.now) c.deref-part-items.result.now c.loop-part.part-index (record { ref_ptr = (0, 0); now = [] }) c.loop-part-test.true in
    let some = sym c.in_ok-order.ensures ∙ c.in-Some.is in
    ap (λ bs. with_orders bs (drop (c.loop-part.part-index + 1) (map (λ (p : Bor (List ℕ)). p.now) c.deref-part-items.result.now))) c.in_ok-push.ensures.items
    ∙ (sym (ap (with_orders c.loop-part.orders.items) next ∙ order-new _ _ _ c.in-Some.order some) ∙ c.loop-part.invariant)

pub returns : goal.returns
returns c =
    let end = orders-end c.loop-part.orders.items (map (λ (p : Bor (List ℕ)). p.now) c.deref-part-items.result.now) c.loop-part.part-index
    (subst (λ n. n ≤ c.loop-part.part-index) (sym (length-map c.deref-part-items.result.now _)) c.loop-part-test.false) in
    ap Some c.from_vec.ensures ∙ (sym end ∙ c.loop-part.invariant)
