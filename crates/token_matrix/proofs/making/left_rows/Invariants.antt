use Rattle.token_matrix.proofs.LeftTokens.{LeftSoFar}
use Rattle.token_matrix.proofs.making.left_rows.Given as goal

abbrev pub invariant-loop-row : goal.invariant-loop-row
invariant-loop-row l = LeftSoFar l.shared l.graph l.lines l.rows l.row-index
