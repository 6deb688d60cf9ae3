use Rattle.std.proofs.Common.{ℕ, ◌<◌}
use Rattle.periodic.specs.ScheduleLines.{LineHolds}
use Rattle.cert_checker.proofs.schedules.first_faulty.Given as goal

abbrev pub invariant-loop-actor : goal.invariant-loop-actor
invariant-loop-actor g l = (a : ℕ) → a < l.actor → LineHolds (g.F.Firing.net l.net) l.schedule.period l.schedule.rounds l.schedule.starts a
