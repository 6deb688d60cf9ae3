use Rattle.std.proofs.Common.{◌≤◌, Some, ◌∙◌, [], List, ℕ, Bor, sym, ap, map, subst, drop, ◌+◌}
use Rattle.std.proofs.lemmas.List.{length-map}
use Rattle.sd_words.specs.OrderLists.{with_names}
use Rattle.sd_words.proofs.BufferParts.{next-part}
use Rattle.sd_words.proofs.OrderParts.{name-none, name-new, names-end}
use Rattle.sd_words.proofs.orders.order_of.Goals as goal

pub returns-in_default : goal.returns-in_default
returns-in_default c =
    let next = next-part (λ (p : Bor (List ℕ)). p.now) c.deref-name-items.result.now c.loop-name.name-index (record { ref_ptr = (0, 0); now = [] }) c.loop-name-test.true in
    let none = sym c.in_ok-actor.ensures ∙ c.in_default.is in
    sym (ap (with_names c.loop-name.names.items) next ∙ name-none _ _ _ none) ∙ c.loop-name.invariant

pub loop-name-preserved : goal.loop-name-preserved
loop-name-preserved c =
    let next = next-part (λ (p : Bor (List ℕ)). p.now) c.deref-name-items.result.now c.loop-name.name-index (record { ref_ptr = (0, 0); now = [] }) c.loop-name-test.true in
    let some = sym c.in_ok-actor.ensures ∙ c.in-Some.is in
    ap (λ bs. with_names bs (drop (c.loop-name.name-index + 1) (map (λ (p : Bor (List ℕ)). p.now) c.deref-name-items.result.now))) c.in_ok-push.ensures.items
    ∙ (sym (ap (with_names c.loop-name.names.items) next ∙ name-new _ _ _ c.in-Some.actor some) ∙ c.loop-name.invariant)

pub returns : goal.returns
returns c =
    let end = names-end c.loop-name.names.items (map (λ (p : Bor (List ℕ)). p.now) c.deref-name-items.result.now) c.loop-name.name-index
    (subst (λ n. n ≤ c.loop-name.name-index) (sym (length-map c.deref-name-items.result.now _)) c.loop-name-test.false) in
    ap Some c.from_vec.ensures ∙ (sym end ∙ c.loop-name.invariant)
