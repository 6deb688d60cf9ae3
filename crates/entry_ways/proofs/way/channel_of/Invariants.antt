use Rattle.std.proofs.Common.{◌<◌, ℕ}
use Rattle.std.specs.Prelude.{slice_index}
use Rattle.entry_ways.specs.inside.Traces.{IsOnChannel}
use Rattle.entry_ways.proofs.way.channel_of.Given as goal

-- the token is of no channel so far
abbrev pub invariant-loop-channel : goal.invariant-loop-channel
invariant-loop-channel g l = (i : ℕ) → i < l.channel → IsOnChannel (g.F.Firing.net l.chains.wired.now.net.now) (slice_index l.chains.firsts.now) l.token i → ⊥
