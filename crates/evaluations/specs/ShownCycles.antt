-- How many need cycles show a rate.
use Rattle.std.specs.Prelude.{ℕ}
use Rattle.evaluations.specs.declared.shown.Shown.{Shown}
use Rattle.evaluations.specs.declared.shown.Shown.TheVariants.{Cycle, Blocked}

-- one, or none where counts do
abbrev pub shows_cycle : Shown → ℕ
shows_cycle (Cycle cycle) = 1
shows_cycle (Blocked counts) = 0
