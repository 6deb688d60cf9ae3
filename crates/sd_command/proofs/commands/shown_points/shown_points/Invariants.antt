use Rattle.std.proofs.Common.{◌≡◌, ◌++◌, length, take}
use Rattle.std.specs.List.{AllZip}
use Rattle.report.specs.ListTexts.{lines_of}
use Rattle.report.specs.StorageTexts.{point_text, points_header}
use Rattle.sd_command.specs.commands.Points.{IsPointSchedule}
use Rattle.sd_command.proofs.commands.shown_points.shown_points.Given as goal

-- the schedules and the lines of the points whose tasks were taken
abbrev pub invariant-loop-task : goal.invariant-loop-task
invariant-loop-task g l = record {
  schedules : AllZip (IsPointSchedule (g.F.Firing.net l.net)) (take (length l.yielded) l.points) l.schedules.items;
  text : l.text.items ≡ points_header (length l.points) ++ lines_of (point_text l.graph) (take (length l.yielded) l.points) l.schedules.items;
}
