-- With which numbers the gate of a run is entered.
use Rattle.std.specs.Prelude.{◌≡◌, ℕ, true, List, Some, None}
use Rattle.sd_base.specs.declared.tables.GraphFile.{GraphFile}
use Rattle.sd_base.specs.declared.tables.ScenarioFile.{ScenarioFile}
use Rattle.sd_base.specs.declared.limits.Limits.{Limits}
use Rattle.sd_base.specs.FileNet.{net_of}
use Rattle.sd_base.specs.Net.{Net}
use Rattle.sd_words.specs.declared.request.Request.{Request}
use Rattle.sd_words.specs.declared.request.Request.TheVariants as requests
use Rattle.pareto_front.specs.declared.point.Point.{Point}
use Rattle.levels.specs.Entrances.{EnterByLevels}
use Rattle.explore.specs.declared.exploration.Member.{Member}
use Rattle.explore.specs.Explorations.{IsExploration, capacities_of, cycles_in}
use Rattle.pareto_search.specs.Entrances.{IsEvaluating}
use Rattle.gen_graph.specs.MadeGraphs.{made_graph}
use Rattle.scenario_storage.specs.declared.point.ScenarioLimits.{ScenarioLimits}
use Rattle.scenario_storage.specs.declared.point.ScenarioPoint.{ScenarioPoint}
use Rattle.scenario_storage.specs.Entrances.{AreEntered}
use Rattle.scenario_storage.specs.ScenarioPoints.{AreScenarioPoints}
use Rattle.sd_io.specs.Outside.{Files}
use Rattle.sd_steps.specs.Askings.{asking}
use Rattle.sd_steps.specs.Balancings.{balancing}
use Rattle.sd_steps.specs.Courses.{Step}
use Rattle.sd_steps.specs.Readings.{opening_graph}
use Rattle.sd_steps.specs.ScenarioSteps.{opening_scenarios}
use Rattle.sd_command.specs.declared.commands.wanted.WantedPoints.{WantedPoints}
use Rattle.sd_command.specs.commands.Generations.{usual_limits}

-- that an item of a level entered, by the number of the level and that of the item
abbrev pub Entered : Type 1
Entered = ℕ → ℕ → Type 0

-- a step passes a value on of which this holds
abbrev pub Passing : {A : Type 0} → Step A → (A → Type 0) → Type 0
Passing {A} step holds = (a : A) × step.passes a × holds a

-- What a search for the points of a net evaluated, of which so many have live nets: without a certificate, distributions that
-- entered level by level; with one, the members of an exploration, which did as well.
pub data IsSearched (net : Net) (wanted : WantedPoints) (entered : Entered) (n : ℕ) : Type 0 where
  for_points : wanted.certificate ≡ None → IsEvaluating net wanted.limits entered n → IsSearched net wanted entered n
  for_members : (name : List ℕ) → wanted.certificate ≡ Some name → (members : List Member) (points : List Point) → IsExploration net wanted.limits members points → n ≡ cycles_in members
      → EnterByLevels net.channels entered (capacities_of members) → IsSearched net wanted entered n

-- the search of `storage`: on the net of the graph
abbrev pub trade_off_entered : WantedPoints → GraphFile → Entered → ℕ → Type 0
trade_off_entered wanted graph entered n =
    Passing (balancing graph) λ gamma.
    IsSearched (net_of graph gamma wanted.no_overlap) wanted entered n

abbrev pub storage_entered : List ℕ → WantedPoints → Files → Entered → ℕ → Type 0
storage_entered name wanted files entered n =
    Passing (opening_graph files name true) λ graph.
    trade_off_entered wanted graph entered n

-- that of `generate`: on the net of the graph of a number
abbrev pub summed_entered : Limits → GraphFile → Entered → ℕ → Type 0
summed_entered limits graph entered n =
    Passing (balancing graph) λ gamma.
    IsEvaluating (net_of graph gamma true) limits entered n

abbrev pub generate_entered : ℕ → ℕ → ℕ → Entered → ℕ → Type 0
generate_entered seed limit actors = summed_entered (usual_limits limit) (made_graph seed actors)

-- that of `scenario-storage`: what was rated for the points of the file
abbrev pub points_entered : ScenarioLimits → ScenarioFile → Entered → Type 0
points_entered limits file entered = (points : List ScenarioPoint) × AreScenarioPoints file limits points × AreEntered file limits entered points

abbrev pub scenario_storage_entered : List ℕ → ScenarioLimits → Files → Entered → Type 0
scenario_storage_entered name limits files entered =
    Passing (opening_scenarios files name) λ file.
    points_entered limits file entered

-- what entered for a request, after so many executions; other commands have no gate
abbrev pub command_entered : Request → Files → Entered → ℕ → Type 0
command_entered (requests.Storage graph limits no_overlap certificate) files entered n = storage_entered graph (record { limits = limits; no_overlap = no_overlap; certificate = certificate }) files entered n
command_entered (requests.Generate seed limit actors) files entered n = generate_entered seed limit actors entered n
command_entered (requests.ScenarioStorage graph limit distributions) files entered n = scenario_storage_entered graph (record { total = limit; distributions = distributions }) files entered
command_entered _ files entered n = Unit {0}

-- what entered for words that ask for a command which is done
abbrev pub course_entered : List (List ℕ) → Files → Entered → ℕ → Type 0
course_entered words files entered n =
    Passing (asking words) λ request.
    command_entered request files entered n
