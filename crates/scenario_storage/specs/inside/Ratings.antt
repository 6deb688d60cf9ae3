-- What the scenarios of a bounded file come to.
use Rattle.std.specs.Prelude.{◌≡◌, ℕ, ◌≤◌, ◌<◌, Option, Some, List, Result, Ok, Err, length, slice_get}
use Rattle.sd_base.specs.declared.limits.TheConstants.{EDGES}
use Rattle.sd_base.specs.declared.tables.ScenarioFile.{ScenarioFile}
use Rattle.sd_base.specs.declared.tables.ScenarioRow.{ScenarioRow}
use Rattle.sd_base.specs.Net.{IsRepetitionOf}
use Rattle.sd_base.specs.Untimed.{IsBlockedBy, IsLive}
use Rattle.token_matrix.specs.Matrices.{IsMatrix}
use Rattle.token_matrix.specs.declared.making.MatrixError.{MatrixError}
use Rattle.token_matrix.specs.declared.making.MatrixError.TheVariants.{Limit, Blocked, NoMemory}
use Rattle.automaton.specs.declared.graph.TimedGraph.{TimedGraph}
use Rattle.automaton.specs.TimedGraphs.{AreKept, AreMatrices, IsTimedGraph}
use Rattle.bounded_scenarios.specs.BoundedFiles.{bounded_file, bounded_graph}
use Rattle.bounded_scenarios.specs.StorageRates.{AllRun, RunsOn, bounded_net}
use Rattle.scenario_storage.specs.declared.rating.Measured.{Measured}
use Rattle.scenario_storage.specs.declared.rating.Measured.TheVariants as measured

-- scenario s with its repetition vector
pub record IsScenarioAt (file : ScenarioFile) (gammas : List (List ℕ)) (s : ℕ) : Type 0 where
  pub row : ScenarioRow
  pub at : slice_get file.scenarios s ≡ Some row
  pub gamma : List ℕ
  pub its : slice_get gammas s ≡ Some gamma
  pub gives : IsRepetitionOf row.graph gamma

-- scenario s is blocked in these counts
pub record IsBlockedIn (file : ScenarioFile) (gammas : List (List ℕ)) (ds : List (Option ℕ)) (s : ℕ) (counts : List ℕ) : Type 0 where
  pub scenario : IsScenarioAt file gammas s
  pub lacks : List (Option ℕ)
  pub blocked : IsBlockedBy (bounded_net file.shared ds scenario.row.graph scenario.gamma) counts lacks

-- scenario s can complete its round, and this is its matrix
pub record IsMatrixOf (file : ScenarioFile) (gammas : List (List ℕ)) (ds : List (Option ℕ)) (s : ℕ) (matrix : List (List (Option ℕ))) : Type 0 where
  pub scenario : IsScenarioAt file gammas s
  pub live : IsLive (bounded_net file.shared ds scenario.row.graph scenario.gamma)
  pub carries : IsMatrix (bounded_file file ds).shared (bounded_graph file.shared ds scenario.row.graph) scenario.gamma matrix

-- the matrix of scenario s, or it is blocked
abbrev pub IsMatrixAnswer : ScenarioFile → List (List ℕ) → List (Option ℕ) → ℕ → Result (List (List (Option ℕ))) MatrixError → Type 0
IsMatrixAnswer file gammas ds s (Ok matrix) = IsMatrixOf file gammas ds s matrix
IsMatrixAnswer file gammas ds s (Err Limit) = ⊥
IsMatrixAnswer file gammas ds s (Err (Blocked counts lacks)) = IsBlockedIn file gammas ds s counts
IsMatrixAnswer file gammas ds s (Err NoMemory) = Unit {0}

-- the scenarios before s run
abbrev pub RunBefore : ScenarioFile → List (Option ℕ) → ℕ → Type 0
RunBefore file ds s = (t : ℕ) (row : ScenarioRow) → t < s → slice_get file.scenarios t ≡ Some row → RunsOn file ds row

-- scenario s is the first that is blocked, and it is so in these counts
pub record IsBlockedAt (file : ScenarioFile) (gammas : List (List ℕ)) (ds : List (Option ℕ)) (s : ℕ) (counts : List ℕ) : Type 0 where
  pub is : IsBlockedIn file gammas ds s counts
  pub first : RunBefore file ds s

-- each scenario runs, and these are the matrices of the bounded file
pub record AreAllMatrices (file : ScenarioFile) (ds : List (Option ℕ)) (matrices : List (List (List (Option ℕ)))) : Type 0 where
  pub runs : AllRun file ds
  pub are : AreMatrices (bounded_file file ds) matrices

-- of those the matrices that the timed graph needs are kept
pub record AreKeptMatrices (file : ScenarioFile) (ds : List (Option ℕ)) (kept : List (List (List (Option ℕ)))) : Type 0 where
  pub matrices : List (List (List (Option ℕ)))
  pub all : AreAllMatrices file ds matrices
  pub are : AreKept (bounded_file file ds) matrices kept

abbrev pub IsMeasured : ScenarioFile → List (List ℕ) → List (Option ℕ) → Measured → Type 0
IsMeasured file gammas ds (measured.Blocked s counts) = IsBlockedAt file gammas ds s counts
IsMeasured file gammas ds (measured.Live matrices) = AreKeptMatrices file ds matrices.items

-- the timed graph of the bounded file, within its limits
pub record IsGraphOf (file : ScenarioFile) (ds : List (Option ℕ)) (graph : TimedGraph) : Type 0 where
  pub timed : IsTimedGraph (bounded_file file ds) graph
  pub few : length graph.edges ≤ EDGES
