use Rattle.storage.proofs.ChannelSteps.{more-greatest}
use Rattle.sd_base.specs.Net.{channel_at}
use Rattle.firing.specs.Ports.{rates_at}
use Rattle.storage.proofs.steps.port_greatest.Goals as goal

pub loop-phase-preserved : goal.loop-phase-preserved
loop-phase-preserved g c =
    more-greatest (rates_at c.args.port (channel_at (g.F.Firing.net c.args.net.now) c.args.channel)) c.loop-phase.greatest c.port_rate.result c.greater-greatest.result c.loop-phase.phase c.port_rate.ensures.rate c.port_rate.ensures.small c.greater-greatest.ensures.first c.greater-greatest.ensures.second c.greater-greatest.ensures.least c.loop-phase.invariant
