use Rattle.std.proofs.Common.{◌∙◌, ℕ, Some, sym, ap}
use Rattle.std.specs.Prelude.{◌==◌, ◌&&◌, not, slice_index}
use Rattle.ordered.specs.OrderedNets.{is_named}
use Rattle.ordered.specs.declared.orders.OrderError.TheVariants.{Count}
use Rattle.ordered.proofs.FirstFaultIsTold.{count-whole, count-faulty, counts-over}
use Rattle.ordered.proofs.orders.check_counts.Goals as goal

pub returns-then-is_short-clause-fault : goal.returns-then-is_short-clause-fault
returns-then-is_short-clause-fault c =
    let short = ap (λ (n : ℕ). is_named c.args.orders.now.lists c.loop-actor.actor && not (n == slice_index c.args.gamma.now c.loop-actor.actor)) (sym c.standing-found.ensures) ∙ (sym c.is_short.ensures ∙ c.if-is_short.true) in
    sym c.loop-actor.invariant ∙ (count-faulty c.args.orders.now.lists c.args.gamma.now c.loop-actor.actor c.loop-actor-test.true short ∙ ap (λ (n : ℕ). Some (Count c.loop-actor.actor n)) (sym c.standing-found.ensures))

pub loop-actor-preserved : goal.loop-actor-preserved
loop-actor-preserved c =
    let whole = ap (λ (n : ℕ). is_named c.args.orders.now.lists c.loop-actor.actor && not (n == slice_index c.args.gamma.now c.loop-actor.actor)) (sym c.standing-found.ensures) ∙ (sym c.is_short.ensures ∙ c.if-is_short.false) in
    count-whole c.args.orders.now.lists c.args.gamma.now c.loop-actor.actor c.loop-actor-test.true whole ∙ c.loop-actor.invariant

pub returns-clause-whole : goal.returns-clause-whole
returns-clause-whole c = sym c.loop-actor.invariant ∙ counts-over c.args.orders.now.lists c.args.gamma.now c.loop-actor.actor c.loop-actor-test.false
