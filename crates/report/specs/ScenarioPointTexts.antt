-- The text of the Pareto points of storage and worst rate.
use Rattle.std.specs.Prelude.{ℕ, ◌≤◌, ◌++◌, List, length}
use Rattle.std.specs.List.{flat_map}
use Rattle.sd_base.specs.declared.tables.ScenarioFile.{ScenarioFile}
use Rattle.scenario_storage.specs.declared.point.ScenarioPoint.{ScenarioPoint}
use Rattle.report.specs.StorageTexts.{buffers_line, point_line, points_header, shared_buffers_list}
use Rattle.report.specs.WorstTexts.{IsWorstIn, shown_lines}

-- a point of a file: its storage and its rate, its distribution, and what shows the rate on the file with the spaces, whose shared
-- rows the point has
unfoldable pub scenario_point_lines : ScenarioFile → ScenarioPoint → List ℕ
scenario_point_lines file p =
    point_line p.total p.rate ++ (buffers_line (shared_buffers_list file.shared p.capacities.capacities) ++ shown_lines file.states p.shared p.graph p.worst)

-- the text of points: their number, and each in turn
abbrev pub scenario_points_lines : ScenarioFile → List ScenarioPoint → List ℕ
scenario_points_lines file points = points_header (length points) ++ flat_map (scenario_point_lines file) points

-- a point can be told: there are no more capacities than shared channels, and what shows the rate lies in its graph
pub record CanBeTold (file : ScenarioFile) (p : ScenarioPoint) : Type 0 where
  pub channels : length p.capacities.capacities ≤ length file.shared
  pub worst : IsWorstIn file.states p.graph p.worst
