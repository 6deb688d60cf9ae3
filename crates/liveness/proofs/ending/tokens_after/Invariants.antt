use Rattle.std.specs.Prelude.{slice_index}
use Rattle.liveness.proofs.CountsAreReached.{LevelsBelow}
use Rattle.liveness.proofs.ending.tokens_after.Given as goal

abbrev pub invariant-loop-channel : goal.invariant-loop-channel
invariant-loop-channel g l = LevelsBelow (g.F.Firing.net l.net) (slice_index l.counts) l.channel l.tokens.items
