-- The timed graph of a file of scenarios: node q * n + i stands for token i of n when state q is about to run.
use Rattle.std.specs.Prelude.{◌≡◌, ℕ, ◌+◌, ◌*◌, List, [], ◌∷◌, ◌++◌, length, slice_get, slice_index_or, Option, Some, None}
use Rattle.sd_base.specs.Net.{IsRepetitionOf}
use Rattle.sd_base.specs.declared.tables.ScenarioFile.{ScenarioFile}
use Rattle.sd_base.specs.declared.tables.ScenarioRow.{ScenarioRow}
use Rattle.sd_base.specs.declared.tables.StateRow.{StateRow}
use Rattle.automaton.specs.declared.graph.Edge.{Edge}
use Rattle.automaton.specs.declared.graph.TimedGraph.{TimedGraph}
use Rattle.sd_base.specs.Scenarios.{shared_count, LeadsOn}
use Rattle.token_matrix.specs.EntryWays.{CarriesStamps}
use Rattle.token_matrix.specs.Matrices.{IsMatrix}

-- the edges into one node by the row of its token, from the nodes from `from` on
abbrev pub edges_into : ℕ → ℕ → List (Option ℕ) → List Edge
edges_into from to [] = []
edges_into from to (None ∷ row) = edges_into (from + 1) to row
edges_into from to (Some e ∷ row) = record { from = from; to = to; weight = e } ∷ edges_into (from + 1) to row

-- the edges between two states by the matrix of the first one's scenario, into the nodes from `to` on
abbrev pub edges_between : ℕ → ℕ → List (List (Option ℕ)) → List Edge
edges_between from to [] = []
edges_between from to (row ∷ rows) = edges_into from to row ++ edges_between from (to + 1) rows

-- the edges out of a state whose first node is `from`, to each of its successors in their order
abbrev pub edges_out : ℕ → ℕ → List (List (Option ℕ)) → List ℕ → List Edge
edges_out n from rows [] = []
edges_out n from rows (r ∷ next) = edges_between from (r * n) rows ++ edges_out n from rows next

-- the edges out of the states from q on
abbrev pub edges_from : ℕ → ℕ → List (List (List (Option ℕ))) → List StateRow → List Edge
edges_from n q matrices [] = []
edges_from n q matrices (s ∷ states) = edges_out n (q * n) (slice_index_or matrices s.scenario []) s.next ++ edges_from n (q + 1) matrices states

-- the matrices are those of the file's scenarios, in order
pub record AreMatrices (file : ScenarioFile) (matrices : List (List (List (Option ℕ)))) : Type 0 where
  pub all : length matrices ≡ length file.scenarios
  pub each : (s : ℕ) (row : ScenarioRow) → slice_get file.scenarios s ≡ Some row →
      (gamma : List ℕ) × IsRepetitionOf row.graph gamma × IsMatrix file.shared row.graph gamma (slice_index_or matrices s [])

-- so are those that are computed: of scenarios whose rounds carry stamps
pub record AreComputed (file : ScenarioFile) (matrices : List (List (List (Option ℕ)))) : Type 0 where
  pub all : length matrices ≡ length file.scenarios
  pub each : (s : ℕ) (row : ScenarioRow) → slice_get file.scenarios s ≡ Some row →
      (gamma : List ℕ) × CarriesStamps file.shared row.graph gamma × IsMatrix file.shared row.graph gamma (slice_index_or matrices s [])

-- the graph is that of the file
pub record IsTimedGraph (file : ScenarioFile) (graph : TimedGraph) : Type 0 where
  pub matrices : List (List (List (Option ℕ)))
  pub are_matrices : AreMatrices file matrices
  pub leads_on : LeadsOn file
  pub tokens : graph.tokens ≡ shared_count file.shared
  pub initial : graph.initial ≡ file.initial
  pub states : graph.states ≡ length file.states
  pub edges : graph.edges ≡ edges_from (shared_count file.shared) 0 matrices file.states

-- a state of the file runs scenario s
abbrev pub IsRun : ScenarioFile → ℕ → Type 0
IsRun file s = (q : ℕ) × (state : StateRow) × (slice_get file.states q ≡ Some state) × (state.scenario ≡ s)

-- of all matrices those of the scenarios that states run are kept; what stands in place of the others is left open
pub record AreKept (file : ScenarioFile) (all kept : List (List (List (Option ℕ)))) : Type 0 where
  pub long : length kept ≡ length all
  pub same : (s : ℕ) → IsRun file s → slice_index_or kept s [] ≡ slice_index_or all s []

-- the matrix of each scenario that one of the states runs has n rows
abbrev pub AreSized : ℕ → List (List (List (Option ℕ))) → List StateRow → Type 0
AreSized n matrices states = (q : ℕ) (s : StateRow) → slice_get states q ≡ Some s → length (slice_index_or matrices s.scenario []) ≡ n

-- the graph of a file by these matrices; if those of the scenarios that states run are theirs, it is the file's timed graph
pub record IsProduct (file : ScenarioFile) (matrices : List (List (List (Option ℕ)))) (graph : TimedGraph) : Type 0 where
  pub tokens : graph.tokens ≡ shared_count file.shared
  pub initial : graph.initial ≡ file.initial
  pub states : graph.states ≡ length file.states
  pub edges : graph.edges ≡ edges_from (shared_count file.shared) 0 matrices file.states
  pub timed : (all : List (List (List (Option ℕ)))) → AreKept file all matrices → AreMatrices file all → IsTimedGraph file graph
