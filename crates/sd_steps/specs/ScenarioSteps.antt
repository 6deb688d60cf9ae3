-- What a file of scenarios is tested for before its worst rate is told: reading it, each scenario in order, and its timed graph.
use Rattle.std.specs.Prelude.{◌≡◌, ◌≢◌, ℕ, ◌*◌, ◌≤◌, ◌<◌, false, List, [], length, sum, slice_get, slice_index_or, Option, Some, None}
use Rattle.sd_base.specs.declared.limits.Quantity.TheVariants as quantities
use Rattle.sd_base.specs.declared.limits.TheConstants.{EDGES, STAMPS}
use Rattle.sd_base.specs.Limits.{greatest_of}
use Rattle.sd_base.specs.declared.tables.GraphFile.{GraphFile}
use Rattle.sd_base.specs.declared.tables.ScenarioFile.{ScenarioFile}
use Rattle.sd_base.specs.declared.tables.ScenarioRow.{ScenarioRow}
use Rattle.sd_base.specs.declared.tables.SharedRow.{SharedRow}
use Rattle.sd_base.specs.Scenarios.{shared_count}
use Rattle.sd_base.specs.FileNet.{net_of}
use Rattle.sd_base.specs.Untimed.{IsLive}
use Rattle.graph_reader.specs.declared.error.ReadError.{ReadError}
use Rattle.graph_reader.specs.declared.error.ReadError.TheVariants as reading
use Rattle.scenario_reader.specs.ScenarioFiles.{GivesFile, IsFirstFileFault}
use Rattle.token_matrix.specs.Matrices.{IsMatrix}
use Rattle.automaton.specs.declared.graph.TimedGraph.{TimedGraph}
use Rattle.automaton.specs.TimedGraphs.{IsProduct, edges_from}
use Rattle.escapes.specs.EscapedNames.{escaped_name}
use Rattle.report.specs.declared.refusal.Refusal.{Refusal}
use Rattle.report.specs.declared.refusal.Refusal.TheVariants.{Above, Ratio, Inconsistent, Apart, NoInput, Deadlock}
use Rattle.report.specs.QuantityWords.{quantity_text}
use Rattle.sd_io.specs.Outside.{Files}
use Rattle.sd_steps.specs.declared.file_kind.FileKind.TheVariants as kinds
use Rattle.sd_steps.specs.Courses.{Step, deciding, through}
use Rattle.sd_steps.specs.Takings.{taking}
use Rattle.sd_steps.specs.Readings.{reading_refusal}
use Rattle.sd_steps.specs.Balancings.{balancing}
use Rattle.sd_steps.specs.Nets.{IsDeadlocked, feeding}

-- the first fault of the bytes of a file of scenarios is told of
pub record IsFileRefusal (bytes : List ℕ) (refusal : Refusal) : Type 0 where
  pub error : ReadError
  pub some : error ≢ reading.NoMemory
  pub first : IsFirstFileFault bytes error
  pub told : refusal ≡ reading_refusal error

-- reading the file of scenarios that the bytes spell
abbrev pub reading_scenarios : List ℕ → Step ScenarioFile
reading_scenarios bytes = deciding (λ file. GivesFile bytes file) (λ refusal. IsFileRefusal bytes refusal)

-- taking the file of scenarios of a name, and reading it
abbrev pub opening_scenarios : Files → List ℕ → Step ScenarioFile
opening_scenarios files name = through (taking files kinds.Graph name) λ bytes. reading_scenarios bytes

-- a refusal of a graph, as that of the scenario of this printed name
abbrev pub of_scenario : List ℕ → Refusal → Refusal
of_scenario name (Above scenario quantity number) = Above (Some name) quantity number
of_scenario name (Ratio scenario number path) = Ratio (Some name) number path
of_scenario name (Inconsistent scenario walk num den) = Inconsistent (Some name) walk num den
of_scenario name (Apart scenario a b) = Apart (Some name) a b
of_scenario name (NoInput scenario actor) = NoInput (Some name) actor
of_scenario name (Deadlock scenario list) = Deadlock (Some name) list
of_scenario name refusal = refusal

-- a step on a scenario's graph, whose refusals name the scenario
abbrev pub naming : {A : Type 0} → List ℕ → Step A → Step A
naming name step = record {
  passes = step.passes;
  refuses = λ refusal. (r : Refusal) × step.refuses r × (refusal ≡ of_scenario name r);
  fails = step.fails;
}

-- matrices of entries, by row
abbrev pub Entries : Type 0
Entries = List (List (Option ℕ))

-- the matrix of a graph of which a round can be completed
pub record IsMade (shared : List SharedRow) (graph : GraphFile) (gamma : List ℕ) (matrix : Entries) : Type 0 where
  pub is : IsMatrix shared graph gamma matrix
  pub few : sum gamma * shared_count shared ≤ STAMPS
  pub live : IsLive (net_of graph gamma false)

-- there is none: the stamps of a round pass their limit, or else no round can be completed
pub data IsUnmade (shared : List SharedRow) (graph : GraphFile) (gamma : List ℕ) (refusal : Refusal) : Type 0 where
  stamps : STAMPS < sum gamma * shared_count shared → refusal ≡ Above None (quantity_text quantities.Stamps) (greatest_of quantities.Stamps) → IsUnmade shared graph gamma refusal
  blocked : sum gamma * shared_count shared ≤ STAMPS → IsDeadlocked graph (net_of graph gamma false) refusal → IsUnmade shared graph gamma refusal

abbrev pub making_matrix : List SharedRow → GraphFile → List ℕ → Step Entries
making_matrix shared graph gamma = deciding (λ matrix. IsMade shared graph gamma matrix) (λ refusal. IsUnmade shared graph gamma refusal)

-- the matrix of a graph: its repetition vector, an input of each actor, and a round
abbrev pub measuring_graph : List SharedRow → GraphFile → Step Entries
measuring_graph shared graph =
    through (balancing graph) λ gamma.
    through (feeding graph (net_of graph gamma false)) λ fed.
    making_matrix shared graph gamma

-- that of a scenario
abbrev pub measuring_one : List SharedRow → ScenarioRow → Step Entries
measuring_one shared s = naming (escaped_name s.name) (measuring_graph shared s.graph)

-- each scenario has its matrix
pub record AreMeasured (file : ScenarioFile) (matrices : List Entries) : Type 0 where
  pub all : length matrices ≡ length file.scenarios
  pub each : (s : ℕ) (row : ScenarioRow) → slice_get file.scenarios s ≡ Some row → (measuring_one file.shared row).passes (slice_index_or matrices s [])

-- a step refuses a scenario, and it is the first
pub record IsFirstWithout {A : Type 0} (one : ScenarioRow → Step A) (file : ScenarioFile) (refusal : Refusal) : Type 0 where
  pub place : ℕ
  pub row : ScenarioRow
  pub at : slice_get file.scenarios place ≡ Some row
  pub is : (one row).refuses refusal
  pub first : (s : ℕ) (r : ScenarioRow) → s < place → slice_get file.scenarios s ≡ Some r → (a : A) × (one r).passes a

-- a scenario has no matrix, and it is the first
abbrev pub IsUnmeasured : ScenarioFile → Refusal → Type 0
IsUnmeasured file refusal = IsFirstWithout (measuring_one file.shared) file refusal

-- the matrices of the scenarios of a file, one after another
abbrev pub measuring : ScenarioFile → Step (List Entries)
measuring file = deciding (λ matrices. AreMeasured file matrices) (λ refusal. IsUnmeasured file refusal)

-- the timed graph of a file, within its edges
pub record IsLinked (file : ScenarioFile) (matrices : List Entries) (graph : TimedGraph) : Type 0 where
  pub is : IsProduct file matrices graph
  pub few : length graph.edges ≤ EDGES

-- there are too many
pub record IsUnlinked (file : ScenarioFile) (matrices : List Entries) (refusal : Refusal) : Type 0 where
  pub many : EDGES < length (edges_from (shared_count file.shared) 0 matrices file.states)
  pub told : refusal ≡ Above None (quantity_text quantities.Edges) (greatest_of quantities.Edges)

abbrev pub linking : ScenarioFile → List Entries → Step TimedGraph
linking file matrices = deciding (λ graph. IsLinked file matrices graph) (λ refusal. IsUnlinked file matrices refusal)

-- the timed graph of a file, by the matrices of its scenarios
abbrev pub timing : ScenarioFile → Step TimedGraph
timing file = through (measuring file) λ matrices. linking file matrices
