use Rattle.std.proofs.Common.{◌<◌, length, arith}
use Rattle.sd_base.specs.Net.{nowhere}
use Rattle.firing.proofs.SingleCopies.{channels-more}
use Rattle.firing.proofs.single.channels_of.Goals as goal

pub loop-channel-preserved : goal.loop-channel-preserved
loop-channel-preserved g c =
    let place : c.loop-channel.channel < length (g.F.Firing.net c.args.net.now).channels = omega (arith, c.loop-channel-test.true, c.channels-channel-end.ensures) in
    channels-more (g.F.Firing.net c.args.net.now).channels c.loop-channel.channels.items c.push.new.self.items c.loop-channel.channel c.channel_of.result nowhere place c.channel_of.ensures c.in_ok-push.ensures.items c.loop-channel.invariant
