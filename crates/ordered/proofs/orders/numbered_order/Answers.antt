use Rattle.std.proofs.Common.{◌∙◌, ◌<◌, [], ◌∷◌, All, length, sym, subst}
use Rattle.std.proofs.lemmas.List.Elements.{All-append, All-cons, All-nil}
use Rattle.std.proofs.lemmas.Result.{err_from_is_err_and}
use Rattle.ordered.specs.NamedOrders.{Tells}
use Rattle.ordered.specs.inside.Marks.{is_marked}
use Rattle.ordered.proofs.FirstFaultIsTold.{entry-whole, entry-faulty, entries-over, entry-pushed}
use Rattle.ordered.proofs.orders.numbered_order.Goals as goal

pub returns-in_err-numbered_entry-clause-fault : goal.returns-in_err-numbered_entry-clause-fault
returns-in_err-numbered_entry-clause-fault c =
    let p = err_from_is_err_and c.from_residual.result c.from_residual.ensures.1 in
    let tells = entry-faulty c.args.actors.now (is_marked c.args.marks.now) c.args.names.now c.loop-name.name-index c.in_err-numbered_entry.field-0.0 c.name-item.result c.loop-name-test.true c.name-item.is c.in_err-numbered_entry.ensures.fault in
    rw (p.1, p.2) (subst (Tells c.in_err-numbered_entry.field-0.0) c.loop-name.invariant.1 tells)

pub loop-name-preserved : goal.loop-name-preserved
loop-name-preserved c = (
  c.in_ok-push.ensures.ok ∙ entry-pushed c.args.actors.now (is_marked c.args.marks.now) c.args.names.now c.loop-name.name-index c.loop-name.order c.name-item.result c.in_ok-numbered_entry.field-0 c.loop-name-test.true c.name-item.is c.in_ok-numbered_entry.ensures.found c.loop-name.invariant.0,
  entry-whole c.args.actors.now (is_marked c.args.marks.now) c.args.names.now c.loop-name.name-index c.name-item.result c.loop-name-test.true c.name-item.is c.in_ok-numbered_entry.ensures.whole ∙ c.loop-name.invariant.1,
  subst (All (λ a. a < length c.args.actors.now)) (sym c.in_ok-push.ensures.ok) (All-append (λ a. a < length c.args.actors.now) c.loop-name.order (c.in_ok-numbered_entry.field-0 ∷ []) c.loop-name.invariant.2 (All-cons (λ a. a < length c.args.actors.now) c.in_ok-numbered_entry.field-0 [] c.in_ok-numbered_entry.ensures.actor (All-nil (λ a. a < length c.args.actors.now)))),
)

pub returns-clause-whole : goal.returns-clause-whole
returns-clause-whole c = sym c.loop-name.invariant.1 ∙ entries-over c.args.actors.now (is_marked c.args.marks.now) c.args.names.now c.loop-name.name-index c.loop-name-test.false
