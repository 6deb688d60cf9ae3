use Rattle.std.proofs.Common.{arith}
use Rattle.sd_base.specs.Net.{channel_at}
use Rattle.firing.specs.Ports.{rates_at}
use Rattle.firing.proofs.TokenMoves.{span-one, span-more}
use Rattle.firing.proofs.tokens.span_sum.Goals as goal

pub returns-then-phases-eq1-clause-sum : goal.returns-then-phases-eq1-clause-sum
returns-then-phases-eq1-clause-sum g c =
    span-one (rates_at c.args.port (channel_at (g.F.Firing.net c.args.net.now) c.args.channel)) c.args.from c.args.firings c.port_phases-phases.result c.port_rate.result
    c.port_phases-phases.ensures.phases c.if-phases-eq1.true c.port_rate.ensures.rate

pub loop-k-preserved : goal.loop-k-preserved
loop-k-preserved g c = record {
  sum = span-more (rates_at c.args.port (channel_at (g.F.Firing.net c.args.net.now) c.args.channel)) c.args.from c.loop-k.k c.port_phases-phases.result c.loop-k.sum c.port_rate-in-loop-k.result
      c.port_phases-phases.ensures.phases c.loop-k.invariant.sum c.port_rate-in-loop-k.ensures.rate;
  small = omega (arith, c.loop-k.invariant.small, c.port_rate-in-loop-k.ensures.small);
}
