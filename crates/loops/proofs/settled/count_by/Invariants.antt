use Rattle.std.proofs.Common.{ℕ, ◌-◌, ◌≤◌, ◌<◌, length, slice_index}
use Rattle.loops.proofs.settled.count_by.Given as goal

abbrev pub invariant-halves : goal.invariant-halves
invariant-halves l = record {
  order : l.count ≤ l.end;
  within : l.end ≤ length l.moments;
  by : 1 ≤ l.count → slice_index l.moments (l.count - 1) ≤ l.last;
  after : (k : ℕ) → l.end ≤ k → k < length l.moments → l.last < slice_index l.moments k;
}

abbrev pub decreases-halves : goal.decreases-halves
decreases-halves l = l.end - l.count
