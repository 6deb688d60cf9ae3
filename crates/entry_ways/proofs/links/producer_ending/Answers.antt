use Rattle.std.proofs.Common.{arith}
use Rattle.entry_ways.specs.inside.Columns.{IsEndIn}
use Rattle.entry_ways.proofs.links.producer_ending.Goals as goal

pub returns : goal.returns
returns g c = λ ((k, d, low, high, at, is) : IsEndIn (g.F.Firing.net c.args.chains.now.wired.now.net.now) c.args.rows.now c.args.channel c.args.first c.args.end
    c.args.start). c.loop-producer.invariant.2 (k, d, low, omega (arith, c.loop-producer-test.false), at, is)
