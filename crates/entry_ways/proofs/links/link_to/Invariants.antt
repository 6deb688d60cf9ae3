use Rattle.std.proofs.Common.{◌<◌, ℕ}
use Rattle.std.specs.Prelude.{slice_index}
use Rattle.entry_ways.specs.inside.Columns.{IsLink}
use Rattle.entry_ways.proofs.links.link_to.Given as goal

-- no channel so far has such a link
abbrev pub invariant-loop-channel : goal.invariant-loop-channel
invariant-loop-channel g l = (k : ℕ) → k < l.channel-index → IsLink (g.F.Firing.net l.chains.wired.now.net.now) (slice_index l.chains.firsts.now) l.chains.token l.rows
    (slice_index l.channel-items k) l.firing l.start → ⊥
