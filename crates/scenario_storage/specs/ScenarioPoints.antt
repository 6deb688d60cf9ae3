-- What the Pareto points of the storage of shared channels and the worst rate come to.
use Rattle.std.specs.Prelude.{◌≡◌, ℕ, ℤ, ◌*◌, ◌≤◌, ◌<◌, true, All, Option, Some, List, length, map}
use Rattle.sd_base.specs.declared.limits.TheConstants.{EDGES}
use Rattle.sd_base.specs.declared.numbers.Fraction.{Fraction}
use Rattle.sd_base.specs.declared.tables.ScenarioFile.{ScenarioFile}
use Rattle.sd_base.specs.declared.tables.SharedRow.{SharedRow}
use Rattle.sd_base.specs.Scenarios.{shared_count}
use Rattle.automaton.specs.declared.graph.TimedGraph.{TimedGraph}
use Rattle.automaton.specs.TimedGraphs.{AreMatrices, IsTimedGraph, edges_from}
use Rattle.automaton.specs.CriticalCycles.{AreLeast, Fit, IsCritical, IsReachedNode}
use Rattle.scenario_rate.specs.declared.answer.Worst.{Worst}
use Rattle.scenario_rate.specs.Answers.{IsApart, potential_at}
use Rattle.scenario_rate.specs.ChosenCycles.{IsChosen}
use Rattle.storage.specs.CapacityOrder.{no_later}
use Rattle.storage.specs.ParetoPoints.{IsFrontBy, Pair, ReachesBy}
use Rattle.storage.specs.StorageOrder.{AreInOrder}
use Rattle.bounded_scenarios.specs.SharedChannels.{shared_channels}
use Rattle.bounded_scenarios.specs.BoundedFiles.{bounded_file}
use Rattle.bounded_scenarios.specs.StorageRates.{AllRun, HasWorstRate}
use Rattle.bounded_scenarios.specs.ScenarioGuides.{IsReachable}
use Rattle.scenario_storage.specs.declared.point.ScenarioLimits.{ScenarioLimits}
use Rattle.scenario_storage.specs.declared.point.ScenarioPoint.{ScenarioPoint}
use Rattle.scenario_storage.specs.declared.error.ScenarioStorageError.{ScenarioStorageError}
use Rattle.scenario_storage.specs.declared.error.ScenarioStorageError.TheVariants.{Edges, DistributionsSpent, NoMemory}

-- a point without its distribution
abbrev pub pair_of : ScenarioPoint → Pair
pair_of p = record { storage = p.total; num = p.rate.num; den = p.rate.den }

-- a distribution reaches a point's storage and rate within the limit
abbrev pub ReachesPoint : ScenarioFile → ℕ → ScenarioPoint → List (Option ℕ) → Type 0
ReachesPoint file limit p ds = ReachesBy (shared_channels file) (HasWorstRate file) limit p.total p.rate.num p.rate.den ds

-- the shared rows and the timed graph are those of the bounded file; and of the graph there is a critical cycle, the chosen
-- one, whose rounds by its time are the rate, and the least potentials that fit it
pub record IsShownBy (file : ScenarioFile) (ds : List (Option ℕ)) (rate : Fraction) (shared : List SharedRow) (graph : TimedGraph) (worst : Worst) : Type 0 where
  pub shared_rows : shared ≡ (bounded_file file ds).shared
  pub timed : IsTimedGraph (bounded_file file ds) graph
  pub few : length graph.edges ≤ EDGES
  pub same : worst.rate ≡ rate
  pub critical : IsCritical graph rate.num rate.den worst.cycle
  pub apart : IsApart graph.edges worst.cycle
  pub chosen : IsChosen graph rate.num rate.den (potential_at worst.potentials) worst.cycle
  pub fit : Fit graph rate.num rate.den (potential_at worst.potentials)
  pub count : length worst.potentials ≡ graph.states * graph.tokens
  pub there : (v : ℕ) (x : ℤ) → potential_at worst.potentials v ≡ Some x → IsReachedNode graph v
  pub lowest : AreLeast graph rate.num rate.den (potential_at worst.potentials)

-- a point's distribution is reachable, reaches its storage and its rate within the limit, and is the least that does; and the
-- rate is shown
pub record IsPoint (file : ScenarioFile) (limit : ℕ) (p : ScenarioPoint) : Type 0 where
  pub reaches : ReachesPoint file limit p p.capacities.capacities
  pub least : (ds : List (Option ℕ)) → ReachesPoint file limit p ds → no_later p.capacities.capacities ds ≡ true
  pub reachable : IsReachable file limit p.capacities.capacities
  pub shown : IsShownBy file p.capacities.capacities p.rate p.shared p.graph p.worst

-- the points are the front of all distributions within the limit, by rising storage
pub record AreScenarioPoints (file : ScenarioFile) (limits : ScenarioLimits) (points : List ScenarioPoint) : Type 0 where
  pub front : IsFrontBy (shared_channels file) (HasWorstRate file) limits.total (map pair_of points)
  pub reached : All (IsPoint file limits.total) points

-- distributions that differ and are all reachable within the limit
pub record AreFound (file : ScenarioFile) (limit : ℕ) (dss : List (List (Option ℕ))) : Type 0 where
  pub order : AreInOrder (shared_channels file) dss
  pub reachable : All (IsReachable file limit) dss

-- a distribution with which each scenario runs gives a timed graph with too many edges
abbrev pub HasTooManyEdges : ScenarioFile → List (Option ℕ) → Type 0
HasTooManyEdges file ds =
    AllRun file ds
    × ((matrices : List (List (List (Option ℕ)))) × AreMatrices (bounded_file file ds) matrices
    × (EDGES < length (edges_from (shared_count (bounded_file file ds).shared) 0 matrices file.states)))

-- why the points aren't found: a reachable distribution gives too many edges; more distributions are reachable than allowed; or
-- want of memory
abbrev pub IsRefusal : ScenarioFile → ScenarioLimits → ScenarioStorageError → Type 0
IsRefusal file limits (Edges at) = IsReachable file limits.total at.capacities × HasTooManyEdges file at.capacities
IsRefusal file limits DistributionsSpent = (dss : List (List (Option ℕ))) × AreFound file limits.total dss × (limits.distributions < length dss)
IsRefusal file limits NoMemory = Unit {0}
