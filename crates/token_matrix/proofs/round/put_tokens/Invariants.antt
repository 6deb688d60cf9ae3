use Rattle.token_matrix.proofs.ChannelLines.{PutSoFar}
use Rattle.token_matrix.proofs.round.put_tokens.Given as goal

abbrev pub invariant-loop-channel : goal.invariant-loop-channel
invariant-loop-channel g l = PutSoFar (g.F.Firing.net l.net) l.row.value l.outputs l.initial.lines l.lines l.channel-index
