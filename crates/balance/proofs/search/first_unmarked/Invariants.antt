use Rattle.std.proofs.Common.{◌≡◌, ℕ, ◌<◌, true}
use Rattle.balance.specs.inside.Search.{mark_at}
use Rattle.balance.proofs.search.first_unmarked.Given as goal

abbrev pub invariant-loop-actor : goal.invariant-loop-actor
invariant-loop-actor l = (k : ℕ) → k < l.actor → mark_at l.marks k ≡ true
