use Rattle.std.specs.Prelude.{slice_index}
use Rattle.entry_ways.specs.inside.Columns.{IsLinkOf, IsLongest}
use Rattle.entry_ways.proofs.column.start_of.Given as goal

-- the latest arrival on the channels so far
abbrev pub invariant-loop-channel : goal.invariant-loop-channel
invariant-loop-channel g l = IsLongest (IsLinkOf (g.F.Firing.net l.chains.wired.now.net.now) (slice_index l.chains.firsts.now) l.chains.token l.rows
    l.channel-items l.channel-index l.firing) l.start
