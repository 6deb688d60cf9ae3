use Rattle.std.proofs.Common.{◌≡◌, ℕ, ◌<◌}
use Rattle.sd_base.specs.Schedules.{phases_at}
use Rattle.firing.proofs.single.is_single_phase.Given as goal

abbrev pub invariant-loop-actor : goal.invariant-loop-actor
invariant-loop-actor g l = (a : ℕ) → a < l.actor → phases_at (g.F.Firing.net l.net) a ≡ 1
