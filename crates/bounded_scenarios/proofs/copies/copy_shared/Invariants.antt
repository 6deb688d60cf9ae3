use Rattle.std.proofs.Common.{◌≡◌, take}
use Rattle.bounded_scenarios.proofs.copies.copy_shared.Given as goal

abbrev pub invariant-loop-row : goal.invariant-loop-row
invariant-loop-row l = l.rows ≡ take l.row-index l.shared
