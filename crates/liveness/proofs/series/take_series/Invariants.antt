use Rattle.firing.proofs.TokenMoves.{TakesSoFar}
use Rattle.liveness.proofs.series.take_series.Given as goal

abbrev pub invariant-loop-channel : goal.invariant-loop-channel
invariant-loop-channel g l = TakesSoFar (g.F.Firing.net l.net) l.from l.firings l.inputs l.initial.tokens l.tokens l.channel-index
