use Rattle.std.proofs.Common.{◌≡◌, length}
use Rattle.selftimed.proofs.RateTables.{AreUpTo}
use Rattle.selftimed.proofs.rates.reset_rates.Given as goal

abbrev pub invariant-loop-channel : goal.invariant-loop-channel
invariant-loop-channel g l = record {
  long : length l.rates ≡ length (g.F.Firing.net l.net).channels;
  each : AreUpTo (g.F.Firing.net l.net) l.rates l.channel;
}
