use Rattle.std.proofs.Common.{ℕ, ◌<◌}
use Rattle.need_loops.proofs.DueRowsAreSelfTimed.{IsDone}
use Rattle.need_loops.proofs.needs.are_whole.Given as goal

abbrev pub invariant-loop-actor : goal.invariant-loop-actor
invariant-loop-actor g l = (a : ℕ) → a < l.actor → IsDone (g.F.Firing.net l.net) l.starts l.until a
