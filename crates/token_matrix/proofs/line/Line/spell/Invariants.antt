use Rattle.std.proofs.Common.{◌≡◌, ◌++◌, take}
use Rattle.token_matrix.specs.inside.Batches.{rows_of}
use Rattle.token_matrix.proofs.line.Line.spell.Given as goal

abbrev pub invariant-loop-place : goal.invariant-loop-place
invariant-loop-place l = l.rows ≡ l.initial.rows ++ rows_of (take l.place l.self-inside.batches.items)
