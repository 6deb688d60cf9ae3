use Rattle.std.proofs.Common.{arith}
use Rattle.sd_base.specs.Net.{channel_at}
use Rattle.firing.specs.Ports.{rates_at}
use Rattle.storage.proofs.ChannelSteps.{none-divide, more-divide, all-divide}
use Rattle.storage.proofs.steps.port_divisor.Goals as goal

pub loop-phase-init : goal.loop-phase-init
loop-phase-init g c = λ d. none-divide (rates_at c.args.port (channel_at (g.F.Firing.net c.args.net.now) c.args.channel)) d

pub loop-phase-preserved : goal.loop-phase-preserved
loop-phase-preserved g c =
    more-divide (rates_at c.args.port (channel_at (g.F.Firing.net c.args.net.now) c.args.channel)) c.loop-phase.divisor c.gcd-divisor.result c.loop-phase.phase (rw c.port_rate.ensures.rate at c.gcd-divisor.ensures) c.loop-phase.invariant

pub returns : goal.returns
returns g c =
    all-divide (rates_at c.args.port (channel_at (g.F.Firing.net c.args.net.now) c.args.channel)) c.loop-phase.divisor c.loop-phase.phase (omega (arith, c.port_phases-phase-end.ensures)) c.loop-phase.invariant
