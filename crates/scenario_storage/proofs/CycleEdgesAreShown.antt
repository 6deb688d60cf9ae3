-- The edges of a cycle are shown, scenario by scenario, once all scenarios are through.
use Rattle.std.proofs.Common.{◌≡◌, true, false, ℕ, ◌*◌, ◌≤◌, Bool, Option, Some, List, length, sym, subst, arith}
use Rattle.std.specs.Prelude.{◌↔◌, Contains, IfOk, Result, Ok, Err, slice_get, slice_index_or}
use Rattle.std.proofs.lemmas.List.Elements.{Contains-get_or}
use Rattle.sd_base.specs.declared.limits.TheConstants.{NODES}
use Rattle.sd_base.specs.declared.memory.NoMemory.{NoMemory}
use Rattle.sd_base.specs.declared.tables.ScenarioFile.{ScenarioFile}
use Rattle.sd_base.specs.declared.tables.ScenarioRow.{ScenarioRow}
use Rattle.sd_base.specs.Scenarios.{Shares}
use Rattle.sd_base.specs.Untimed.{IsLive}
use Rattle.sd_base.proofs.RoundsKeepTokens.{one-repetition}
use Rattle.automaton.specs.declared.graph.TimedGraph.{TimedGraph}
use Rattle.automaton.specs.TimedGraphs.{IsTimedGraph}
use Rattle.entry_ways.specs.declared.marking.EntryPlace.{EntryPlace}
use Rattle.bounded_scenarios.specs.BoundedFiles.{bounded_file}
use Rattle.bounded_scenarios.specs.Boundings.{CanBeMeasured}
use Rattle.bounded_scenarios.specs.StorageRates.{AllRun, bounded_net}
use Rattle.scenario_storage.specs.inside.Ratings.{IsScenarioAt}
use Rattle.scenario_storage.specs.inside.Shown.{AreShownLive, HaveWays, IsEntryIn}
use Rattle.scenario_storage.proofs.LongestWaysAreMarked.{AreMarkedTo, have-ways, scenario-below}

-- of the timed graph of a bounded file there are some tokens, and few nodes
pub graph-tokens : (file : ScenarioFile) (ds : List (Option ℕ)) → CanBeMeasured file ds → (graph : TimedGraph) → IsTimedGraph (bounded_file file ds) graph → 1 ≤ graph.tokens
graph-tokens file ds can graph is = omega (arith, can.some_token, is.tokens)

pub graph-nodes : (file : ScenarioFile) (ds : List (Option ℕ)) → CanBeMeasured file ds → (graph : TimedGraph) → IsTimedGraph (bounded_file file ds) graph → graph.states * graph.tokens ≤ NODES
graph-nodes file ds can graph is =
    subst (λ (q : ℕ). q * graph.tokens ≤ NODES) (sym is.states) (subst (λ (t : ℕ). length file.states * t ≤ NODES) (sym is.tokens) can.few_nodes)

-- a scenario that runs is live with its repetition vector
pub live-of : (file : ScenarioFile) (gammas : List (List ℕ)) (ds : List (Option ℕ)) (s : ℕ) (sc : IsScenarioAt file gammas s) → AllRun file ds →
    IsLive (bounded_net file.shared ds sc.row.graph sc.gamma)
live-of file gammas ds s sc runs =
    let r = runs s sc.row sc.at in
    subst (λ (v : List ℕ). IsLive (bounded_net file.shared ds sc.row.graph v)) (one-repetition sc.row.graph r.0 sc.gamma r.1 sc.gives) r.2

module _ (file : ScenarioFile) (gammas : List (List ℕ)) (ds : List (Option ℕ)) (can : CanBeMeasured file ds)
    (shares : (k : ℕ) (row : ScenarioRow) → slice_get file.scenarios k ≡ Some row → Shares file.shared row.graph) (graph : TimedGraph) (is : IsTimedGraph (bounded_file file ds) graph) where
  pub ways-ready : AllRun file ds → (s : ℕ) → IsScenarioAt file gammas s → (cycle : List ℕ) (entries : List EntryPlace) →
      ((x : EntryPlace) → Contains entries x ↔ IsEntryIn file.states graph cycle s x) → HaveWays file gammas ds s entries
  ways-ready runs s sc cycle entries listed = record {
    scenario = sc;
    live = live-of file gammas ds s sc runs;
    ways = λ k d below. have-ways file gammas ds can shares graph is s sc cycle entries listed (slice_index_or entries k d) (Contains-get_or entries k d below);
  }

  -- when all scenarios are through, all edges are
  pub shown-live : (cycle : List ℕ) (n : ℕ) (marks : List Bool) → length file.scenarios ≤ n → AreMarkedTo file ds graph cycle n marks → (shown : List ℕ) →
      ((c : ℕ) → Contains shown c ↔ (slice_index_or marks c false ≡ true)) → AreShownLive file ds graph cycle shown
  shown-live cycle n marks past are shown listed = record {
    taken = λ c one. are.taken c ((listed c).0 one);
    shows = λ k e on at.
        let low = scenario-below file gammas ds can shares graph is k e at in
        let way = are.shows k e on at (omega (arith, low, past)) in
        (way.0, way.1, way.2, λ c i row row_at one is_space. (listed c).1 (way.3 c i row row_at one is_space));
  }

  pub shown-all : (cycle : List ℕ) (n : ℕ) (marks : List Bool) → length file.scenarios ≤ n → AreMarkedTo file ds graph cycle n marks → (r : Result (List ℕ) NoMemory) →
      IfOk r (λ (shown : List ℕ). (c : ℕ) → Contains shown c ↔ (slice_index_or marks c false ≡ true)) → IfOk r (AreShownLive file ds graph cycle)
  shown-all cycle n marks past are (Ok shown) listed = shown-live cycle n marks past are shown listed
  shown-all cycle n marks past are (Err e) listed = tt
