use Rattle.std.proofs.Common.{below_more}
use Rattle.test_nets.specs.Ends.{HasInput}
use Rattle.test_nets.proofs.checks.is_fed.Goals as goal

pub loop-actor-preserved : goal.loop-actor-preserved
loop-actor-preserved g c =
    below_more (HasInput (g.F.Firing.net c.args.net.now)) c.loop-actor.actor c.loop-actor.invariant (c.has_input.ensures.0 c.if-not-has_input.false)
