use Rattle.std.proofs.Common.{◌≡◌, replicate, false}
use Rattle.balance.proofs.search.unmarked.Given as goal

abbrev pub invariant-loop-actor : goal.invariant-loop-actor
invariant-loop-actor l = l.marks.items ≡ replicate l._actor false
