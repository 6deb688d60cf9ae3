use Rattle.std.proofs.Common.{arith}
use Rattle.sd_base.specs.Net.{channel_at}
use Rattle.sd_base.proofs.SumsRepeatByTurns.{total-zero}
use Rattle.periodic.proofs.CodeFindsNeeds.{some-phases}
use Rattle.periodic.proofs.needs.last_short.Goals as goal

pub loop-enough-init : goal.loop-enough-init
loop-enough-init g c = record {
  apart = some-phases (channel_at (g.F.Firing.net c.args.net.now) c.args.channel).made c.args.phases c.args.wanted c.requires.some c.requires.enough;
  within = omega arith;
  short = omega (arith, total-zero (channel_at (g.F.Firing.net c.args.net.now) c.args.channel).made, c.requires.some);
  enough = c.requires.enough;
}
