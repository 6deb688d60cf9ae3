use Rattle.std.proofs.Common.{◌≢◌, ℕ, ◌<◌, ◌≤◌, slice_index}
use Rattle.file_text.proofs.read.value_start.Given as goal

abbrev pub invariant-loop-place : goal.invariant-loop-place
invariant-loop-place l = (l.place ≤ l.end) × ((k : ℕ) → l.place ≤ k → k < l.end → slice_index l.bytes k ≢ l.quote)

abbrev pub decreases-loop-place : goal.decreases-loop-place
decreases-loop-place l = l.place
