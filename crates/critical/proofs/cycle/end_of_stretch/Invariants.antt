use Rattle.std.proofs.Common.{◌≡◌, ◌+◌, ℕ}
use Rattle.critical.specs.Stretches.{steps_in}
use Rattle.critical.proofs.ChainsSplitAndJoin.{Follows}
use Rattle.critical.proofs.cycle.end_of_stretch.Given as goal

abbrev pub invariant-loop-behind : goal.invariant-loop-behind
invariant-loop-behind g l = (more : ℕ) × (l.end.time ≡ l.fn.from.time + more) × Follows (g.F.Firing.net l.net) l.fn.from.last (steps_in l.stretch) l.behind l.end.last more
