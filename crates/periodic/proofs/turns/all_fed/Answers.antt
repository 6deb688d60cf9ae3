use Rattle.std.proofs.Common.{below_more}
use Rattle.periodic.specs.inside.FiniteTests.{IsFed}
use Rattle.periodic.proofs.turns.all_fed.Goals as goal

pub loop-channel-preserved : goal.loop-channel-preserved
loop-channel-preserved g c =
    below_more (IsFed (g.F.Firing.net c.args.net.now) c.args.period c.args.rows.now) c.loop-channel.channel c.loop-channel.invariant (c.is_fed.ensures.0 c.if-not-is_fed.false)
