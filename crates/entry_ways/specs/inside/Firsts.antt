-- By channel the number of its first shared token.
use Rattle.std.specs.Prelude.{◌≡◌, ℕ, ◌<◌, List, length, slice_index}
use Rattle.sd_base.specs.declared.tables.GraphFile.{GraphFile}
use Rattle.sd_base.specs.declared.tables.SharedRow.{SharedRow}
use Rattle.token_matrix.specs.Stamps.{first_of}

-- the numbers of the first shared tokens of the channels of a graph
pub record AreFirsts (shared : List SharedRow) (g : GraphFile) (firsts : List ℕ) : Type 0 where
  pub long : length firsts ≡ length g.channels
  pub each : (i : ℕ) → i < length g.channels → slice_index firsts i ≡ first_of shared g i
