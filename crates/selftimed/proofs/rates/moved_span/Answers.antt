use Rattle.sd_base.specs.Net.{channel_at}
use Rattle.firing.specs.Ports.{rates_at}
use Rattle.firing.proofs.TokenMoves.{span-one}
use Rattle.selftimed.proofs.rates.moved_span.Goals as goal

pub returns-then-port_phases-eq1-clause-sum : goal.returns-then-port_phases-eq1-clause-sum
returns-then-port_phases-eq1-clause-sum g c =
    span-one (rates_at c.args.port (channel_at (g.F.Firing.net c.args.net.now) c.args.channel)) c.args.from c.args.firings c.port_phases.result c.args.rate
    c.port_phases.ensures.phases c.if-port_phases-eq1.true c.requires.rate
