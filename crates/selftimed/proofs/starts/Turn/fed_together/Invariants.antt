use Rattle.selftimed.proofs.FiringsStartTogether.{BatchSoFar}
use Rattle.selftimed.proofs.starts.Turn.fed_together.Given as goal

abbrev pub invariant-loop-channel : goal.invariant-loop-channel
invariant-loop-channel g l = BatchSoFar (g.F.Firing.net l.self.net.now) l.self.actor l.self.own l.self.inputs.now l.tokens l.most l.firings l.lacking l.channel-index
