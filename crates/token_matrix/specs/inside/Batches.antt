-- Tokens by batches.
use Rattle.std.specs.Prelude.{ℕ, List, [], ◌∷◌, ◌++◌, replicate, Option}
use Rattle.token_matrix.specs.declared.batch.Batch.{Batch}

-- the row of each token
abbrev pub rows_of : List Batch → List (List (Option ℕ))
rows_of [] = []
rows_of (b ∷ bs) = replicate b.tokens b.row.value ++ rows_of bs
