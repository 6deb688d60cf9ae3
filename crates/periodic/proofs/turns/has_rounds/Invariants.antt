use Rattle.std.proofs.Common.{◌≡◌, ℕ, ◌*◌, ◌<◌}
use Rattle.std.specs.Prelude.{slice_index}
use Rattle.sd_base.specs.Schedules.{count_of}
use Rattle.periodic.proofs.turns.has_rounds.Given as goal

abbrev pub invariant-loop-actor : goal.invariant-loop-actor
invariant-loop-actor g l = (a : ℕ) → a < l.actor → count_of l.rows a ≡ l.rounds * slice_index (g.F.Firing.net l.net).round a
