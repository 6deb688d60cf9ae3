use Rattle.std.proofs.Common.{◌≡◌, ℕ, ◌+◌, ◌<◌}
use Rattle.sd_base.specs.Schedules.{count_of, start_of, time_of}
use Rattle.need_loops.proofs.rows.is_event.Given as goal

abbrev pub invariant-loop-actor : goal.invariant-loop-actor
invariant-loop-actor g l = (a k : ℕ) → a < l.actor → k < count_of l.starts a → start_of l.starts a k + time_of (g.F.Firing.net l.net) a k ≡ l.moment → ⊥
