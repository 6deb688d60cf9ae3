use Rattle.std.proofs.Common.{ℕ, ◌≤◌, ◌<◌}
use Rattle.need_loops.specs.inside.Showing.{Differ}
use Rattle.need_loops.proofs.unlike.fewer_differ.Given as goal

abbrev pub invariant-loop-fewer : goal.invariant-loop-fewer
invariant-loop-fewer g l = (k : ℕ) → 1 ≤ k → k < l.fewer → Differ (g.F.Firing.net l.net) l.starts l.after k
