use Rattle.std.proofs.Common.{◌≡◌, [], replicate}
use Rattle.loops.proofs.rows.empty_rows.Given as goal

abbrev pub invariant-loop-actor : goal.invariant-loop-actor
invariant-loop-actor g l = l.rows.items ≡ replicate l.actor []
