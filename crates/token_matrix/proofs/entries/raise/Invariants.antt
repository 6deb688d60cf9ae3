use Rattle.std.proofs.Common.{◌≡◌, ◌++◌, take, drop}
use Rattle.token_matrix.specs.inside.LaterRows.{later_row}
use Rattle.token_matrix.proofs.entries.raise.Given as goal

-- what is raised, with the rest raised, is the whole row raised
abbrev pub invariant-loop-column : goal.invariant-loop-column
invariant-loop-column l = take l.column l.row ++ later_row (drop l.column l.row) (drop l.column l.other) ≡ later_row l.initial.row l.other
