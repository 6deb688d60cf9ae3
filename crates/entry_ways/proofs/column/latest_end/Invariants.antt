use Rattle.std.proofs.Common.{◌≡◌, ◌≤◌, ◌⊎◌}
use Rattle.entry_ways.specs.inside.Columns.{IsEndIn, IsLongest}
use Rattle.entry_ways.proofs.column.latest_end.Given as goal

-- the latest end of the firings so far
abbrev pub invariant-loop-producer : goal.invariant-loop-producer
invariant-loop-producer g l =
    (l.fn.first ≤ l.producer) × ((l.producer ≤ l.fn.end) ⊎ (l.producer ≡ l.fn.first)) × IsLongest (IsEndIn (g.F.Firing.net l.chains.wired.now.net.now) l.rows l.channel l.fn.first l.producer) l.latest
