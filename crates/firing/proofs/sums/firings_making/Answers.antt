use Rattle.std.proofs.Common.{arith}
use Rattle.sd_base.specs.Net.{channel_at}
use Rattle.firing.proofs.PortSums.{turn-none, whole-turn}
use Rattle.firing.proofs.sums.firings_making.Goals as goal

pub loop-enough-init : goal.loop-enough-init
loop-enough-init g c = record {
  apart = c.port_phases-enough.ensures.some;
  turn = omega (arith, c.port_phases-enough.ensures.phases);
  short = omega (arith, turn-none (channel_at (g.F.Firing.net c.args.net.now) c.args.channel).made, c.requires.some);
  enough = whole-turn (channel_at (g.F.Firing.net c.args.net.now) c.args.channel).made c.port_phases-enough.result c.args.wanted c.port_phases-enough.ensures.phases c.requires.enough;
}
