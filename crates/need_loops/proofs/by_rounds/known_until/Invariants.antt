use Rattle.std.proofs.Common.{ℕ, ◌≤◌, ◌<◌}
use Rattle.sd_base.specs.Schedules.{count_of, start_of}
use Rattle.need_loops.proofs.by_rounds.known_until.Given as goal

abbrev pub invariant-loop-row : goal.invariant-loop-row
invariant-loop-row l = (a : ℕ) → a < l.row-index → (k : ℕ) × (k < count_of l.starts a) × (l.least ≤ start_of l.starts a k)
