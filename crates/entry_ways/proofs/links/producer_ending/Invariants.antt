use Rattle.std.proofs.Common.{◌≡◌, ◌≤◌, ◌⊎◌}
use Rattle.entry_ways.specs.inside.Columns.{IsEndIn}
use Rattle.entry_ways.proofs.links.producer_ending.Given as goal

-- none of the firings so far ends just then
abbrev pub invariant-loop-producer : goal.invariant-loop-producer
invariant-loop-producer g l =
    (l.fn.first ≤ l.producer) × ((l.producer ≤ l.fn.end) ⊎ (l.producer ≡ l.fn.first)) × (IsEndIn (g.F.Firing.net l.chains.wired.now.net.now) l.rows l.channel l.fn.first l.producer l.start → ⊥)
