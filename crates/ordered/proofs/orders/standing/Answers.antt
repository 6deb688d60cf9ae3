use Rattle.std.proofs.Common.{◌≡◌, ◌∙◌, ◌+◌, drop, ℕ, List, sym, ap, subst}
use Rattle.std.specs.Prelude.{◌==◌, count_by}
use Rattle.std.specs.List.{list_any}
use Rattle.ordered.specs.NamedOrders.{standing}
use Rattle.ordered.proofs.FirstFaultIsTold.{standing-here, standing-next}
use Rattle.ordered.proofs.orders.standing.Goals as goal

pub returns-then-has_entry : goal.returns-then-has_entry
returns-then-has_entry c =
    let here = standing-here c.as_slice-order-items.result.now c.args.actor c.loop-order.order-index c.order-item.result c.loop-order-test.true c.order-item.is
    (ap (list_any (λ b. b == c.args.actor)) (sym c.as_slice-entries.ensures) ∙ (sym c.has_entry.ensures ∙ c.if-has_entry.true)) in
    c.entries_of.ensures ∙ (ap (count_by (λ b. b == c.args.actor)) c.as_slice-entries.ensures ∙ (sym here ∙ (ap (λ (os : List (List ℕ)). standing (drop c.loop-order.order-index os) c.args.actor) c.as_slice-order-items.ensures ∙ c.loop-order.invariant)))

pub loop-order-preserved : goal.loop-order-preserved
loop-order-preserved c =
    let next = standing-next c.as_slice-order-items.result.now c.args.actor c.loop-order.order-index c.order-item.result c.loop-order-test.true c.order-item.is
    (ap (list_any (λ b. b == c.args.actor)) (sym c.as_slice-entries.ensures) ∙ (sym c.has_entry.ensures ∙ c.if-has_entry.false)) in
    subst (λ (os : List (List ℕ)). standing (drop (c.loop-order.order-index + 1) os) c.args.actor ≡ standing (drop c.loop-order.order-index os) c.args.actor) c.as_slice-order-items.ensures next ∙ c.loop-order.invariant
