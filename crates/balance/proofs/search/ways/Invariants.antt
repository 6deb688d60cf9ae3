use Rattle.balance.specs.inside.Search.{IsSearching}
use Rattle.balance.proofs.search.ways.Given as goal

abbrev pub invariant-loop-place : goal.invariant-loop-place
invariant-loop-place l = IsSearching l.links l.actors l.search.found.items l.search.seen.items l.place 0
