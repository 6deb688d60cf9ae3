use Rattle.need_loops.proofs.RowsHoldAllStarts.{AreByBelow}
use Rattle.need_loops.proofs.by_rounds.starts_by.Given as goal

abbrev pub invariant-loop-row : goal.invariant-loop-row
invariant-loop-row l = AreByBelow l.starts l.moment l.row-index l.rows.items
