use Rattle.std.proofs.Common.{◌≡◌, ◌≤◌, ◌++◌, ℕ, None, take, drop}
use Rattle.std.specs.Prelude.{slice_index_or}
use Rattle.token_matrix.specs.inside.LaterRows.{shifted}
use Rattle.token_matrix.proofs.entries.delay.Given as goal

-- what is delayed, with the rest delayed, is the whole row delayed
abbrev pub invariant-loop-column : goal.invariant-loop-column
invariant-loop-column l = record {
  delayed : take l.column l.row ++ shifted l.time (drop l.column l.row) ≡ shifted l.time l.initial.row;
  rest : (p : ℕ) → l.column ≤ p → slice_index_or l.row p None ≡ slice_index_or l.initial.row p None;
}
