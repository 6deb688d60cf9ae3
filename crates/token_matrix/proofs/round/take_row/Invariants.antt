use Rattle.token_matrix.proofs.ChannelLines.{TakenSoFar}
use Rattle.token_matrix.proofs.round.take_row.Given as goal

abbrev pub invariant-loop-channel : goal.invariant-loop-channel
invariant-loop-channel g l = TakenSoFar (g.F.Firing.net l.net) l.size l.inputs l.initial.lines l.lines l.row.items l.channel-index
