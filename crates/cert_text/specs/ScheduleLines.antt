-- The lines of a periodic schedule.
use Rattle.std.specs.Prelude.{ℕ, List, [], ◌∷◌, ◌++◌, codes}
use Rattle.std.specs.List.{flat_map}
use Rattle.std.specs.Fmt.{decimal}
use Rattle.periodic.specs.declared.schedule.Periodic.{Periodic}
use Rattle.cert_text.specs.NumberLines.{numbers_line}

-- the period and the rounds
unfoldable pub schedule_header : ℕ → ℕ → List ℕ
schedule_header period rounds = codes "schedule " ++ (decimal period ++ (codes " " ++ (decimal rounds ++ 10 ∷ [])))

-- and a line of starts for each actor
unfoldable pub schedule_lines : Periodic → List ℕ
schedule_lines schedule = schedule_header schedule.period schedule.rounds ++ flat_map numbers_line schedule.starts
