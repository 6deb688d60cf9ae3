use Rattle.std.proofs.Common.{below_more}
use Rattle.balance.specs.ConnectRefusals.{HasInput}
use Rattle.balance.proofs.connection.no_input.Goals as goal

pub loop-actor-preserved : goal.loop-actor-preserved
loop-actor-preserved c =
    below_more (λ a. HasInput c.args.ends.now a) c.loop-actor.actor c.loop-actor.invariant (c.has_input.ensures.0 c.if-not-has_input.false)
