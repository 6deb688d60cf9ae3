use Rattle.std.proofs.Common.{◌≡◌, [], replicate}
use Rattle.balance.proofs.lists.Lists.new.Given as goal

abbrev pub invariant-loop-actor : goal.invariant-loop-actor
invariant-loop-actor l = l.rows.items ≡ replicate l._actor []
