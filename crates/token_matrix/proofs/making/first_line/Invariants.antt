use Rattle.token_matrix.specs.inside.Tokens.{IsFirstLine}
use Rattle.token_matrix.proofs.making.first_line.Given as goal

abbrev pub invariant-loop-place : goal.invariant-loop-place
invariant-loop-place l = IsFirstLine l.size l.first l.place l.line
