use Rattle.std.proofs.Common.{◌≡◌, length}
use Rattle.selftimed.proofs.RateTables.{AreUpTo}
use Rattle.selftimed.proofs.rates.rates_of.Given as goal

abbrev pub invariant-loop-channel : goal.invariant-loop-channel
invariant-loop-channel g l = record {
  long : length l.rates.items ≡ l.channel;
  each : AreUpTo (g.F.Firing.net l.net) l.rates.items l.channel;
}
