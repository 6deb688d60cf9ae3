use Rattle.std.proofs.Common.{◌+◌, ◌∙◌, ap}
use Rattle.std.proofs.lemmas.List.{length_push}
use Rattle.selftimed.proofs.RateTables.{rates-push}
use Rattle.selftimed.proofs.rates.rates_of.Goals as goal

pub loop-channel-preserved : goal.loop-channel-preserved
loop-channel-preserved g c = record {
  long = rw c.in_ok-push.ensures.items (length_push c.loop-channel.rates.items c.channel_rates.result ∙ ap (λ n. n + 1) c.loop-channel.invariant.long);
  each = rw c.in_ok-push.ensures.items (rates-push (g.F.Firing.net c.args.net.now) c.loop-channel.rates.items c.loop-channel.channel c.channel_rates.result c.loop-channel.invariant.long c.loop-channel.invariant.each c.channel_rates.ensures);
}
