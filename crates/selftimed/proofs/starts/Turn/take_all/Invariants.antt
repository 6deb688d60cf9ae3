use Rattle.std.proofs.Common.{◌≡◌, length}
use Rattle.selftimed.proofs.OwnChannels.{OthersTaken}
use Rattle.selftimed.proofs.starts.Turn.take_all.Given as goal

abbrev pub invariant-loop-channel : goal.invariant-loop-channel
invariant-loop-channel g l = record {
  so_far : OthersTaken (g.F.Firing.net l.self.net.now) l.from l.firings l.self.inputs.now l.initial.tokens l.tokens l.channel-index;
  long : length l.tokens ≡ length (g.F.Firing.net l.self.net.now).channels;
}
