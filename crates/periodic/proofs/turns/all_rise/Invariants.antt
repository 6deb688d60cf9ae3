use Rattle.std.proofs.Common.{ℕ, ◌<◌, []}
use Rattle.std.specs.Prelude.{slice_index_or}
use Rattle.periodic.specs.ScheduleLines.{Rises}
use Rattle.periodic.proofs.turns.all_rise.Given as goal

abbrev pub invariant-loop-actor : goal.invariant-loop-actor
invariant-loop-actor g l = (a : ℕ) → a < l.actor → Rises l.period (slice_index_or l.rows a [])
