use Rattle.std.proofs.Common.{ℕ, ◌-◌, ◌≤◌, ◌<◌, length}
use Rattle.loops.specs.Settling.{IsRowLike}
use Rattle.loops.proofs.settled.unlike_of.Given as goal

abbrev pub invariant-like : goal.invariant-like
invariant-like l = record {
  within : l.unlike ≤ length l.row;
  like : (j : ℕ) → l.unlike ≤ j → j < length l.row → IsRowLike l.row l.more l.period j;
}

abbrev pub decreases-like : goal.decreases-like
decreases-like l = l.unlike - l.more
