-- The points of a file of scenarios can be told.
use Rattle.std.proofs.Common.{◌≡◌, ℕ, suc, ◌*◌, ◌≤◌, inl, List, [], ◌∷◌, length, Option, get_or, Some, refl, ap, arith}
use Rattle.std.specs.Prelude.{All, slice_get, slice_index_or}
use Rattle.std.proofs.lemmas.Option.{slice_get-get_or}
use Rattle.sd_base.specs.declared.limits.TheConstants.{EDGES, NODES}
use Rattle.sd_base.specs.declared.tables.ScenarioFile.{ScenarioFile}
use Rattle.sd_base.specs.declared.tables.ScenarioRow.{ScenarioRow}
use Rattle.sd_base.specs.declared.tables.SharedRow.{SharedRow}
use Rattle.sd_base.specs.Net.{nowhere}
use Rattle.automaton.specs.declared.graph.TimedGraph.{TimedGraph}
use Rattle.automaton.specs.TimedGraphs.{IsTimedGraph}
use Rattle.automaton.specs.SoundGraphs.{IsSound}
use Rattle.storage.specs.Distributions.{IsDistribution, storage_of}
use Rattle.storage.specs.Steps.{step_of}
use Rattle.storage.proofs.CornerLists.{corner-distribution}
use Rattle.storage.proofs.EnlargingAddsRoom.{distribution-length, enlarged-distribution}
use Rattle.bounded_scenarios.specs.BoundedFiles.{bounded_file}
use Rattle.bounded_scenarios.specs.Boundings.{CanBeBounded, CanBeMeasured}
use Rattle.bounded_scenarios.specs.ScenarioGuides.{IsReachable, corner, next}
use Rattle.bounded_scenarios.specs.SharedChannels.{shared_channels, shared_channels_from}
use Rattle.bounded_scenarios.proofs.BoundedRatesExist.{measurable}
use Rattle.scenario_storage.specs.declared.point.ScenarioPoint.{ScenarioPoint}
use Rattle.scenario_storage.specs.ScenarioPoints.{AreScenarioPoints, IsPoint}
use Rattle.scenario_storage.proofs.FilesAllowSearch.{token-roles}
use Rattle.report.specs.ScenarioPointTexts.{CanBeTold}
use Rattle.sd_command.proofs.command_lemmas.WorstSizes.{path-edges}

shared-many : (ss : List ScenarioRow) (p : ℕ) (rows : List SharedRow) → length (shared_channels_from ss p rows) ≡ length rows
shared-many ss p [] = refl
shared-many ss p (row ∷ rows) = ap suc (shared-many ss (suc p) rows)

module _ (file : ScenarioFile) where
  -- there is a capacity for each shared channel at most
  few-entries : (ds : List (Option ℕ)) → IsDistribution (shared_channels file) ds → length ds ≤ length file.shared
  few-entries ds is = let many = shared-many file.scenarios 0 file.shared in let few = distribution-length (shared_channels file) ds is in omega (arith, many, few)

  -- so of what can be reached
  reachable-distribution : (limit : ℕ) (ds : List (Option ℕ)) → IsReachable file limit ds → IsDistribution (shared_channels file) ds
  reachable-distribution limit ds (corner _ is within) = corner-distribution (shared_channels file) ds (λ i below. inl (token-roles file.scenarios 0 file.shared i below)) is
  reachable-distribution limit _ (next ds c reach guided within) =
      enlarged-distribution (shared_channels file) ds c (step_of (slice_index_or (shared_channels file) c nowhere)) (reachable-distribution limit ds reach)

  pub reachable-few : (limit : ℕ) (ds : List (Option ℕ)) → IsReachable file limit ds → length ds ≤ length file.shared
  reachable-few limit ds reach = few-entries ds (reachable-distribution limit ds reach)

  module _ (sound : (f : ScenarioFile) (graph : TimedGraph) → IsTimedGraph f graph → 1 ≤ graph.tokens → graph.states * graph.tokens ≤ NODES → length graph.edges ≤ EDGES → IsSound graph)
      (total : ℕ) (can : CanBeBounded file total) where
    graph-sound : (ds : List (Option ℕ)) → IsDistribution (shared_channels file) ds → storage_of (shared_channels file) ds ≤ total
        → (graph : TimedGraph) → IsTimedGraph (bounded_file file ds) graph → length graph.edges ≤ EDGES → IsSound graph
    graph-sound ds is within graph timed few =
        let can_measure : CanBeMeasured file ds = measurable file total can ds is within in
        let some : 1 ≤ graph.tokens = rw timed.tokens can_measure.some_token in
        let nodes : graph.states * graph.tokens ≤ NODES = rw (timed.states, timed.tokens) can_measure.few_nodes in
        sound (bounded_file file ds) graph timed some nodes few

    can-tell : (p : ScenarioPoint) → IsPoint file total p → CanBeTold file p
    can-tell p is =
        let ds = p.capacities.capacities in
        let within : storage_of (shared_channels file) ds ≤ total = omega (arith, is.reaches.total, is.reaches.within) in
        let good = graph-sound ds is.reaches.distribution within p.graph is.shown.timed is.shown.few in
        let critical = is.shown.critical in
        record {
          channels = few-entries ds is.reaches.distribution;
          worst = record {
            states = is.shown.timed.states;
            edges = λ k d below.
                let at : slice_get p.graph.edges k ≡ Some (get_or p.graph.edges k d) = slice_get-get_or p.graph.edges k d below in
                record { from = good.edges.from k (get_or p.graph.edges k d) at; to = good.edges.to k (get_or p.graph.edges k d) at };
            some = critical.some;
            cycle = path-edges p.graph.edges p.worst.cycle critical.node critical.node critical.closed;
            potentials = is.shown.count;
          };
        }

    pub can-tell-all : (distributions : ℕ) (points : List ScenarioPoint) → AreScenarioPoints file (record { total = total; distributions = distributions }) points → All (CanBeTold file) points
    can-tell-all distributions points are k d below = can-tell (get_or points k d) (are.reached k d below)
