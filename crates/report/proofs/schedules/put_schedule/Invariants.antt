use Rattle.std.proofs.Common.{◌≡◌, ◌++◌, drop}
use Rattle.std.specs.String.{string_bytes}
use Rattle.report.specs.LinkTexts.{actor_lines}
use Rattle.report.specs.ScheduleTexts.{starts_line}
use Rattle.report.proofs.schedules.put_schedule.Given as goal

-- what is written and the lines that are left are the header and all lines
abbrev pub invariant-loop-i : goal.invariant-loop-i
invariant-loop-i l =
    string_bytes l.text ++ actor_lines starts_line (drop l.i l.fn.graph.actors) (drop l.i l.fn.schedule.starts) ≡ string_bytes l.initial.text ++ actor_lines starts_line l.fn.graph.actors l.fn.schedule.starts
