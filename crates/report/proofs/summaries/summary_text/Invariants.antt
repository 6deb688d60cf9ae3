use Rattle.std.proofs.Common.{◌≡◌, ◌++◌, length, sum, take}
use Rattle.std.specs.List.{flat_map}
use Rattle.std.specs.String.{string_bytes}
use Rattle.report.specs.SummaryTexts.{point_summary, summary_header}
use Rattle.report.proofs.summaries.summary_text.Given as goal

-- what is written is the header and the lines of the points so far
abbrev pub invariant-loop-point : goal.invariant-loop-point
invariant-loop-point l =
    string_bytes l.text ≡ summary_header l.seed (length l.graph.actors) (length l.graph.channels) (sum l.gamma) (length l.points) ++ flat_map point_summary (take l.point-index l.points)
