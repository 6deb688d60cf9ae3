use Rattle.std.proofs.Common.{below_more}
use Rattle.periodic.specs.inside.FiniteTests.{InTime}
use Rattle.periodic.proofs.turns.is_fed.Goals as goal

pub loop-place-preserved : goal.loop-place-preserved
loop-place-preserved g c =
    below_more (InTime (g.F.Firing.net c.args.net.now) c.args.period c.args.rows.now c.args.channel) c.loop-place.place c.loop-place.invariant (c.in_time.ensures.0 c.if-not-in_time.false)
