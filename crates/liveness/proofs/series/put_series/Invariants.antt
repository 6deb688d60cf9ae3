use Rattle.firing.proofs.TokenMoves.{PutsSoFar}
use Rattle.liveness.proofs.series.put_series.Given as goal

abbrev pub invariant-loop-channel : goal.invariant-loop-channel
invariant-loop-channel g l = PutsSoFar (g.F.Firing.net l.net) l.from l.firings l.outputs l.initial.tokens l.tokens l.channel-index
