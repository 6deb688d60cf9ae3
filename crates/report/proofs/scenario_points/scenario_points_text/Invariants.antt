use Rattle.std.proofs.Common.{◌≡◌, ◌++◌, length, take}
use Rattle.std.specs.List.{flat_map}
use Rattle.std.specs.String.{string_bytes}
use Rattle.report.specs.ScenarioPointTexts.{scenario_point_lines}
use Rattle.report.specs.StorageTexts.{points_header}
use Rattle.report.proofs.scenario_points.scenario_points_text.Given as goal

abbrev pub invariant-loop-point : goal.invariant-loop-point
invariant-loop-point l = string_bytes l.text ≡ points_header (length l.points) ++ flat_map (scenario_point_lines l.file) (take l.point-index l.points)
