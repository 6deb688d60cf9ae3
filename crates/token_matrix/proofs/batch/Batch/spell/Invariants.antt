use Rattle.std.proofs.Common.{◌≡◌, ◌++◌, replicate}
use Rattle.token_matrix.proofs.batch.Batch.spell.Given as goal

abbrev pub invariant-loop : goal.invariant-loop
invariant-loop l = l.rows ≡ l.initial.rows ++ replicate l.counter l.self.row.value
