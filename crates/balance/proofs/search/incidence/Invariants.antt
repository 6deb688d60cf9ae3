use Rattle.balance.specs.inside.Search.{IsIncidence}
use Rattle.balance.proofs.search.incidence.Given as goal

abbrev pub invariant-loop-channel : goal.invariant-loop-channel
invariant-loop-channel l = IsIncidence l.links l.channel l.actors l.lists.rows.items
