-- Why a scenario gets no matrix.
use Rattle.std.specs.Prelude.{ℕ, ◌≤◌, ◌<◌, ◌*◌, false, List, sum}
use Rattle.sd_base.specs.declared.limits.TheConstants.{STAMPS}
use Rattle.sd_base.specs.declared.tables.GraphFile.{GraphFile}
use Rattle.sd_base.specs.declared.tables.SharedRow.{SharedRow}
use Rattle.sd_base.specs.FileNet.{net_of}
use Rattle.sd_base.specs.Scenarios.{shared_count}
use Rattle.sd_base.specs.Untimed.{IsBlockedBy}
use Rattle.token_matrix.specs.declared.making.MatrixError.{MatrixError}
use Rattle.token_matrix.specs.declared.making.MatrixError.TheVariants.{Limit, Blocked, NoMemory}

-- the firings of a round times the shared tokens are more than is allowed; or they aren't, and the graph is blocked in these
-- counts; want of memory is free
abbrev pub IsMatrixRefusal : List SharedRow → GraphFile → List ℕ → MatrixError → Type 0
IsMatrixRefusal shared g gamma Limit = STAMPS < sum gamma * shared_count shared
IsMatrixRefusal shared g gamma (Blocked counts lacks) =
    (sum gamma * shared_count shared ≤ STAMPS) × IsBlockedBy (net_of g gamma false) counts lacks
IsMatrixRefusal shared g gamma NoMemory = Unit {0}
