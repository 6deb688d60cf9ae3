use Rattle.std.proofs.Common.{◌∙◌, arith}
use Rattle.std.proofs.lemmas.List.{length-set}
use Rattle.selftimed.proofs.RateTables.{rates-set}
use Rattle.selftimed.proofs.rates.reset_rates.Goals as goal

pub loop-channel-preserved : goal.loop-channel-preserved
loop-channel-preserved g c = record {
  long = length-set c.loop-channel.rates c.loop-channel.channel c.channel_rates.result ∙ c.loop-channel.invariant.long;
  each = rates-set (g.F.Firing.net c.args.net.now) c.loop-channel.rates c.loop-channel.channel c.channel_rates.result (omega (arith, c.loop-channel.invariant.long, c.channels-channel-end.ensures, c.loop-channel-test.true)) c.loop-channel.invariant.each c.channel_rates.ensures;
}
