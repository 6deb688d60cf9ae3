use Rattle.std.proofs.Common.{◌≡◌, length}
use Rattle.selftimed.proofs.OwnChannels.{OthersPut}
use Rattle.selftimed.proofs.ends.DueActor.put_all.Given as goal

abbrev pub invariant-loop-channel : goal.invariant-loop-channel
invariant-loop-channel g l = record {
  so_far : OthersPut (g.F.Firing.net l.self.net.now) l.from l.firings l.self.outputs.now l.initial.tokens l.tokens l.channel-index;
  long : length l.tokens ≡ length (g.F.Firing.net l.self.net.now).channels;
}
