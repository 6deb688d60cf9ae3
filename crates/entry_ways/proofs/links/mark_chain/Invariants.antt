use Rattle.std.proofs.Common.{◌≡◌, ◌<◌, ℕ, List, ◌++◌, length, Some}
use Rattle.std.specs.Prelude.{slice_index}
use Rattle.token_matrix.specs.Ways.{IsChain}
use Rattle.entry_ways.specs.inside.Columns.{start_in}
use Rattle.entry_ways.specs.inside.Traces.{AreMarked}
use Rattle.entry_ways.proofs.links.mark_chain.Given as goal

-- the channels so far are marked, and each chain to the firing at hand is, with them, one to the firing that was given
abbrev pub invariant-chain : goal.invariant-chain
invariant-chain g l =
    (l.actor < length (g.F.Firing.net l.chains.wired.now.net.now).times) × (l.firing < slice_index (g.F.Firing.net l.chains.wired.now.net.now).round l.actor) × (start_in l.rows l.actor l.firing ≡ Some l.start)
    × ((cs : List ℕ) × AreMarked cs l.fn.marks l.marks × ((rest : List ℕ) → IsChain (g.F.Firing.net l.chains.wired.now.net.now)
    (slice_index l.chains.firsts.now) l.chains.token l.actor l.firing l.start rest →
    IsChain (g.F.Firing.net l.chains.wired.now.net.now) (slice_index l.chains.firsts.now) l.chains.token l.fn.actor l.fn.firing l.fn.start (cs ++ rest)))

abbrev pub decreases-chain : goal.decreases-chain
decreases-chain g l = l.start
