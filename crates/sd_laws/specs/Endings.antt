-- Laws of how a run ends: the words and files decide it.
use Rattle.std.specs.Prelude.{◌≡◌, ℕ, ◌+◌, ◌≤◌, ◌⊎◌, Bool, true, List, length, Option, Some, IsSome, Ok}
use Rattle.sd_base.specs.declared.tables.GraphFile.{GraphFile}
use Rattle.sd_base.specs.declared.tables.ScenarioFile.{ScenarioFile}
use Rattle.sd_base.specs.declared.limits.Limits.{Limits}
use Rattle.sd_base.specs.declared.limits.TheConstants.{EDGES, STARTS}
use Rattle.sd_base.specs.Net.{Net}
use Rattle.sd_base.specs.FileNet.{net_of}
use Rattle.sd_base.specs.Scenarios.{shared_count}
use Rattle.sd_base.specs.SelfTimed.{events_by, starts_by}
use Rattle.sd_base.specs.Rates.{IsLoop}
use Rattle.sd_base.specs.Untimed.{IsLive}
use Rattle.sd_words.specs.declared.request.Request.TheVariants.{Check, Complete, Convert, Expand, Generate, Ordered, Repetition, Scenario, ScenarioStorage, Storage, Throughput}
use Rattle.sd_words.specs.Asked.{request_of}
use Rattle.storage.specs.BoundedNets.{bound}
use Rattle.storage.specs.NamedBuffers.{Buffer, capacities_of}
use Rattle.ordered.specs.NamedOrders.{lists_of}
use Rattle.ordered.specs.OrderedNets.{ordered}
use Rattle.periodic.specs.declared.schedule.Periodic.{Periodic}
use Rattle.critical.specs.declared.cycle.NeedCycle.{NeedCycle}
use Rattle.pareto_front.specs.declared.point.Point.{Point}
use Rattle.explore.specs.Explorations.{AreFound}
use Rattle.explore.specs.Reachable.{IsReachable}
use Rattle.graph_reader.specs.Laws.{Gives}
use Rattle.scenario_reader.specs.ScenarioFiles.{GivesFile}
use Rattle.automaton.specs.declared.graph.TimedGraph.{TimedGraph}
use Rattle.automaton.specs.TimedGraphs.{AreMatrices, edges_from}
use Rattle.bounded_scenarios.specs.BoundedFiles.{bounded_file}
use Rattle.bounded_scenarios.specs.ScenarioGuides.{IsReachable as IsReachableIn}
use Rattle.bounded_scenarios.specs.StorageRates.{AllRun}
use Rattle.scenario_storage.specs.declared.point.ScenarioLimits.{ScenarioLimits}
use Rattle.scenario_storage.specs.ScenarioPoints.{AreFound as AreFoundIn}
use Rattle.scenario_rate.specs.declared.answer.Worst.{Worst}
use Rattle.gen_graph.specs.MadeGraphs.{made_graph}
use Rattle.balance.specs.Repetition.{IsRound}
use Rattle.report.specs.declared.refusal.Refusal.{Refusal}
use Rattle.sd_io.specs.Outside.{Files, file_under, Rose}
use Rattle.sd_steps.specs.declared.status.Status.TheVariants as statuses
use Rattle.sd_command.specs.declared.commands.wanted.WantedPoints.{WantedPoints}
use Rattle.sd_command.specs.declared.commands.wanted.WantedRate.{WantedRate}
use Rattle.sd_steps.specs.Statuses.{status_of}
use Rattle.sd_steps.specs.Certifyings.{AreShort}
use Rattle.sd_steps.specs.Orderings.{NamedOrders}
use Rattle.sd_command.specs.commands.Points.{ArePointsShown, IsOfPoints}
use Rattle.sd_command.specs.commands.Rates.{IsOfRate, IsRateShown}
use Rattle.sd_steps.specs.ScenarioSteps.{Entries, timing}
use Rattle.sd_command.specs.commands.WorstRates.{IsOfWorst, IsShown}
use Rattle.sd_steps.specs.Courses.{Ending, Refused, Ended, IsCutOff}
use Rattle.sd_command.specs.commands.Generations.{usual_limits}
use Rattle.sd_command.specs.Requests.{course_of}
use Rattle.sd_command.specs.Runs.{Run, Shows}

-- Where a refusal is due, which is after a number of executions, the command can end in no other way, unless it is cut off.
abbrev pub DueIsOne : Type 0
DueIsOne = (words : List (List ℕ)) (files : Files) (refusal : Refusal) (n m : ℕ) (ending : Ending) → IsSome files
    → course_of words files (Refused refusal) n → course_of words files ending m → IsCutOff ending ⊎ ((ending ≡ Refused refusal) × (m ≡ n))

-- a run without faults over told files: no fault was counted in it
pub record IsFaultless (run : Run) : Type 0 where
  pub told : IsSome run.outside.shelf.files
  pub shelf : Rose run.outside.shelf.faults run.outside.shelf.faults_after → ⊥
  pub out : Rose run.outside.out.faults run.outside.out.faults_after → ⊥
  pub err : Rose run.outside.err.faults run.outside.err.faults_after → ⊥

-- such a run ends with the refusal that is due, or for want of memory
abbrev pub DueIsAnswered : Type 0
DueIsAnswered = (run : Run) (cut : Bool) (refusal : Refusal) (n : ℕ) → IsFaultless run → course_of run.words run.outside.shelf.files (Refused refusal) n
    → Shows run cut → (run.status ≡ status_of refusal) ⊎ (run.status ≡ statuses.Memory)

-- where none is due and nothing can end an execution, it is done, or ends for want of memory
abbrev pub ElseIsDone : Type 0
ElseIsDone = (run : Run) (cut : Bool) → IsFaultless run → ((refusal : Refusal) (n : ℕ) → course_of run.words run.outside.shelf.files (Refused refusal) n → ⊥)
    → ((refusal : Refusal) (n : ℕ) → course_of run.words run.outside.shelf.files (Ended refusal) n → ⊥) → Shows run cut
    → (run.status ≡ statuses.Done) ⊎ (run.status ≡ statuses.Memory)

-- a shape of a net comes again soon enough: it is among the `states` first ones, and no more firings start than are allowed
abbrev pub Repeats : Net → ℕ → Type 0
Repeats net states = (entry : ℕ) × (period : ℕ) × IsLoop net entry period × (events_by net (entry + period) ≤ states) × (starts_by net (entry + period) ≤ STARTS)

-- where a certificate of the rate of a net is asked for, each one is short enough
abbrev pub RateCertificatesFit : Net → List (Option ℕ) → WantedRate → Type 0
RateCertificatesFit net ds wanted =
    (schedule : Periodic) (cycle : NeedCycle) → IsRateShown net wanted.states schedule cycle → AreShort wanted.certificate (IsOfRate net ds wanted schedule cycle)

-- such a run of `throughput` is done, or ends for want of memory, where no refusal is due before anything is executed, the
-- net of the graph with the capacities repeats a shape, and its certificates are short enough
abbrev pub ThroughputIsComplete : Type 0
ThroughputIsComplete = (run : Run) (cut : Bool) (name : List ℕ) (buffers : List Buffer) (no_overlap : Bool) (states : ℕ) (certificate : Option (List ℕ)) → IsFaultless run
    → request_of run.words ≡ Ok (Throughput name buffers no_overlap states certificate)
    → ((refusal : Refusal) → course_of run.words run.outside.shelf.files (Refused refusal) 0 → ⊥)
    → ((bytes gamma : List ℕ) (graph : GraphFile) → file_under run.outside.shelf.files name ≡ Some bytes → Gives bytes true graph → IsRound graph gamma
    → (let ds : List (Option ℕ) = capacities_of graph.channels buffers in
    let net : Net = bound (net_of graph gamma no_overlap) ds in
    Repeats net states × RateCertificatesFit net ds (record { no_overlap = no_overlap; states = states; certificate = certificate })))
    → Shows run cut → (run.status ≡ statuses.Done) ⊎ (run.status ≡ statuses.Memory)

-- such a run of `ordered` is, where no refusal is due before anything is executed, and the net whose actors keep the orders
-- repeats a shape
abbrev pub OrderedIsComplete : Type 0
OrderedIsComplete = (run : Run) (cut : Bool) (name : List ℕ) (lists : NamedOrders) (buffers : List Buffer) (no_overlap : Bool) (states : ℕ) → IsFaultless run
    → request_of run.words ≡ Ok (Ordered name lists buffers no_overlap states)
    → ((refusal : Refusal) → course_of run.words run.outside.shelf.files (Refused refusal) 0 → ⊥)
    → ((bytes gamma : List ℕ) (graph : GraphFile) → file_under run.outside.shelf.files name ≡ Some bytes → Gives bytes true graph → IsRound graph gamma
    → Repeats (ordered (bound (net_of graph gamma no_overlap) (capacities_of graph.channels buffers)) (lists_of graph.actors lists)) states)
    → Shows run cut → (run.status ≡ statuses.Done) ⊎ (run.status ≡ statuses.Memory)

-- such a run of `complete` is, where no refusal is due before anything is executed, and the net of the graph with the capacities
-- repeats a shape
abbrev pub CompleteIsComplete : Type 0
CompleteIsComplete = (run : Run) (cut : Bool) (name : List ℕ) (rounds : ℕ) (buffers : List Buffer) (no_overlap : Bool) (states : ℕ) → IsFaultless run
    → request_of run.words ≡ Ok (Complete name rounds buffers no_overlap states)
    → ((refusal : Refusal) → course_of run.words run.outside.shelf.files (Refused refusal) 0 → ⊥)
    → ((bytes gamma : List ℕ) (graph : GraphFile) → file_under run.outside.shelf.files name ≡ Some bytes → Gives bytes true graph → IsRound graph gamma
    → Repeats (bound (net_of graph gamma no_overlap) (capacities_of graph.channels buffers)) states)
    → Shows run cut → (run.status ≡ statuses.Done) ⊎ (run.status ≡ statuses.Memory)

-- such a run of `expand` is, where no refusal is due
abbrev pub ExpandIsComplete : Type 0
ExpandIsComplete = (run : Run) (cut : Bool) (name output : List ℕ) (buffers : List Buffer) (no_overlap : Bool) → IsFaultless run
    → request_of run.words ≡ Ok (Expand name output buffers no_overlap)
    → ((refusal : Refusal) (n : ℕ) → course_of run.words run.outside.shelf.files (Refused refusal) n → ⊥)
    → Shows run cut → (run.status ≡ statuses.Done) ⊎ (run.status ≡ statuses.Memory)

-- the limits are enough for a search for the points: each distribution that is reachable, if its bounded net completes a round,
-- repeats a shape in time, and there are no more of them than are allowed
pub record Suffice (net : Net) (limits : Limits) : Type 0 where
  pub repeats : (ds : List (Option ℕ)) → IsReachable net limits.total ds → IsLive (bound net ds) → Repeats (bound net ds) limits.states
  pub few : (dss : List (List (Option ℕ))) → AreFound net limits.total dss → length dss ≤ limits.distributions

-- where a certificate of the points of a net is asked for, each one is short enough
abbrev pub PointCertificatesFit : Net → WantedPoints → Type 0
PointCertificatesFit net wanted = (points : List Point) (schedules : List Periodic) (n : ℕ) → ArePointsShown net wanted.limits points schedules
    → AreShort wanted.certificate (IsOfPoints net wanted points schedules n)

-- such a run of `storage` is done, or ends for want of memory, where no refusal is due, the limits are enough, and the
-- certificates are short enough
abbrev pub StorageIsComplete : Type 0
StorageIsComplete = (run : Run) (cut : Bool) (name : List ℕ) (limits : Limits) (no_overlap : Bool) (certificate : Option (List ℕ)) → IsFaultless run
    → request_of run.words ≡ Ok (Storage name limits no_overlap certificate)
    → ((refusal : Refusal) (n : ℕ) → course_of run.words run.outside.shelf.files (Refused refusal) n → ⊥)
    → ((bytes gamma : List ℕ) (graph : GraphFile) → file_under run.outside.shelf.files name ≡ Some bytes → Gives bytes true graph → IsRound graph gamma
    → Suffice (net_of graph gamma no_overlap) limits
    × PointCertificatesFit (net_of graph gamma no_overlap) (record { limits = limits; no_overlap = no_overlap; certificate = certificate }))
    → Shows run cut → (run.status ≡ statuses.Done) ⊎ (run.status ≡ statuses.Memory)

-- such a run of `generate` is done, or ends for want of memory, where no refusal is due and the limits are enough
abbrev pub GenerateIsComplete : Type 0
GenerateIsComplete = (run : Run) (cut : Bool) (seed limit actors : ℕ) → IsFaultless run
    → request_of run.words ≡ Ok (Generate seed limit actors)
    → ((refusal : Refusal) (n : ℕ) → course_of run.words run.outside.shelf.files (Refused refusal) n → ⊥)
    → ((gamma : List ℕ) → IsRound (made_graph seed actors) gamma → Suffice (net_of (made_graph seed actors) gamma true) (usual_limits limit))
    → Shows run cut → (run.status ≡ statuses.Done) ⊎ (run.status ≡ statuses.Memory)

-- where a certificate of the worst rate of a file is asked for, each one is short enough
abbrev pub WorstCertificatesFit : ScenarioFile → Option (List ℕ) → Type 0
WorstCertificatesFit file certificate =
    (graph : TimedGraph) (worst : Worst) → (timing file).passes graph → IsShown file graph worst → AreShort certificate (IsOfWorst graph worst)

-- such a run of `scenario` is done, or ends for want of memory, where no refusal is due, and the certificates are short enough
abbrev pub ScenarioIsComplete : Type 0
ScenarioIsComplete = (run : Run) (cut : Bool) (name : List ℕ) (certificate : Option (List ℕ)) → IsFaultless run
    → request_of run.words ≡ Ok (Scenario name certificate)
    → ((refusal : Refusal) (n : ℕ) → course_of run.words run.outside.shelf.files (Refused refusal) n → ⊥)
    → ((bytes : List ℕ) (file : ScenarioFile) → file_under run.outside.shelf.files name ≡ Some bytes → GivesFile bytes file → WorstCertificatesFit file certificate)
    → Shows run cut → (run.status ≡ statuses.Done) ⊎ (run.status ≡ statuses.Memory)

-- the limits are enough for a search for the points of a file: no distribution that can be reached, and with which each scenario
-- runs, gives a timed graph with too many edges, and there are no more of them than may be found
pub record SearchSuffices (file : ScenarioFile) (limits : ScenarioLimits) : Type 0 where
  pub edges : (ds : List (Option ℕ)) → IsReachableIn file limits.total ds → AllRun file ds → (matrices : List Entries) → AreMatrices (bounded_file file ds) matrices
      → length (edges_from (shared_count (bounded_file file ds).shared) 0 matrices file.states) ≤ EDGES
  pub few : (dss : List (List (Option ℕ))) → AreFoundIn file limits.total dss → length dss ≤ limits.distributions

-- such a run of `scenario-storage` is done, or ends for want of memory, where no refusal is due and the limits are enough
abbrev pub ScenarioStorageIsComplete : Type 0
ScenarioStorageIsComplete = (run : Run) (cut : Bool) (name : List ℕ) (limits : ScenarioLimits) → IsFaultless run
    → request_of run.words ≡ Ok (ScenarioStorage name limits.total limits.distributions)
    → ((refusal : Refusal) (n : ℕ) → course_of run.words run.outside.shelf.files (Refused refusal) n → ⊥)
    → ((bytes : List ℕ) (file : ScenarioFile) → file_under run.outside.shelf.files name ≡ Some bytes → GivesFile bytes file → SearchSuffices file limits)
    → Shows run cut → (run.status ≡ statuses.Done) ⊎ (run.status ≡ statuses.Memory)

-- such a run of `repetition` is, where no refusal is due
abbrev pub RepetitionIsComplete : Type 0
RepetitionIsComplete = (run : Run) (cut : Bool) (name : List ℕ) → IsFaultless run
    → request_of run.words ≡ Ok (Repetition name)
    → ((refusal : Refusal) (n : ℕ) → course_of run.words run.outside.shelf.files (Refused refusal) n → ⊥)
    → Shows run cut → (run.status ≡ statuses.Done) ⊎ (run.status ≡ statuses.Memory)

-- such a run of `check` is done, or ends for want of memory, where no refusal is due, also none for a fault of the certificate
abbrev pub CheckIsComplete : Type 0
CheckIsComplete = (run : Run) (cut : Bool) (graph certificate : List ℕ) → IsFaultless run
    → request_of run.words ≡ Ok (Check graph certificate)
    → ((refusal : Refusal) (n : ℕ) → course_of run.words run.outside.shelf.files (Refused refusal) n → ⊥)
    → Shows run cut → (run.status ≡ statuses.Done) ⊎ (run.status ≡ statuses.Memory)

-- such a run of `convert` is, where no refusal is due
abbrev pub ConvertIsComplete : Type 0
ConvertIsComplete = (run : Run) (cut : Bool) (certificate output : List ℕ) → IsFaultless run
    → request_of run.words ≡ Ok (Convert certificate output)
    → ((refusal : Refusal) (n : ℕ) → course_of run.words run.outside.shelf.files (Refused refusal) n → ⊥)
    → Shows run cut → (run.status ≡ statuses.Done) ⊎ (run.status ≡ statuses.Memory)
