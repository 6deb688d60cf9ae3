-- The lines of a periodic schedule.
use Rattle.std.specs.Prelude.{ℕ, List, [], ◌∷◌, ◌++◌, codes}
use Rattle.std.specs.List.{flat_map}
use Rattle.std.specs.Fmt.{decimal}
use Rattle.sd_base.specs.declared.tables.GraphFile.{GraphFile}
use Rattle.periodic.specs.declared.schedule.Periodic.{Periodic}
use Rattle.escapes.specs.EscapedNames.{escaped_name}
use Rattle.report.specs.LinkTexts.{actor_lines}

unfoldable pub schedule_header : ℕ → ℕ → List ℕ
schedule_header period rounds = codes "schedule " ++ (decimal period ++ (codes " " ++ (decimal rounds ++ 10 ∷ [])))

-- a number with a space before it
unfoldable pub spaced : ℕ → List ℕ
spaced n = codes " " ++ decimal n

-- an actor's name and its starts
unfoldable pub starts_line : List ℕ → List ℕ → List ℕ
starts_line name starts = escaped_name name ++ (flat_map spaced starts ++ 10 ∷ [])

-- the period and the rounds, and a line for each actor
unfoldable pub schedule_lines : GraphFile → Periodic → List ℕ
schedule_lines g schedule = schedule_header schedule.period schedule.rounds ++ actor_lines starts_line g.actors schedule.starts
