-- The texts of the answers.
use Rattle.std.specs.Prelude.{ℕ, List, [], ◌∷◌, ◌++◌, length, codes}
use Rattle.std.specs.Fmt.{decimal}
use Rattle.sd_base.specs.declared.tables.GraphFile.{GraphFile}
use Rattle.sd_base.specs.Net.{Net}
use Rattle.periodic.specs.declared.schedule.Periodic.{Periodic}
use Rattle.critical.specs.declared.cycle.NeedCycle.{NeedCycle}
use Rattle.escapes.specs.EscapedNames.{escaped_name}
use Rattle.report.specs.LinkTexts.{actor_lines}
use Rattle.report.specs.FractionTexts.{lowest_text}
use Rattle.report.specs.ScheduleTexts.{schedule_lines}
use Rattle.report.specs.CycleTexts.{cycle_lines}

-- a line with an actor's name and a number
unfoldable pub number_line : List ℕ → ℕ → List ℕ
number_line name number = escaped_name name ++ (codes " " ++ (decimal number ++ 10 ∷ []))

unfoldable pub repetition_header : ℕ → List ℕ
repetition_header n = codes "repetition " ++ (decimal n ++ 10 ∷ [])

-- the text of a repetition vector
unfoldable pub repetition_lines : GraphFile → List ℕ → List ℕ
repetition_lines g v = repetition_header (length g.actors) ++ actor_lines number_line g.actors v

-- the rounds by the period, in lowest terms
unfoldable pub rate_line : ℕ → ℕ → List ℕ
rate_line rounds period = codes "rate " ++ (lowest_text rounds period ++ 10 ∷ [])

-- the text of a rate: that of a schedule, the schedule, and a need cycle
unfoldable pub rate_lines : GraphFile → Net → Periodic → NeedCycle → List ℕ
rate_lines g net schedule cycle = rate_line schedule.rounds schedule.period ++ (schedule_lines g schedule ++ cycle_lines g net cycle)
