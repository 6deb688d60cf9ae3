use Rattle.std.proofs.Common.{◌≡◌, ◌++◌, drop}
use Rattle.std.specs.String.{string_bytes}
use Rattle.report.specs.ListTexts.{lines_of}
use Rattle.report.specs.StorageTexts.{point_text, points_lines}
use Rattle.report.proofs.points.points_text.Given as goal

-- what is written and the points that are left are the whole text
abbrev pub invariant-loop-i : goal.invariant-loop-i
invariant-loop-i g l =
    string_bytes l.text ++ lines_of (point_text l.fn.graph) (drop l.i l.fn.points) (drop l.i l.fn.schedules) ≡ points_lines l.fn.graph l.fn.points l.fn.schedules
