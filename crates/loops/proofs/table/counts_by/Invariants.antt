use Rattle.std.proofs.Common.{◌≡◌, ℕ, ◌<◌, [], length, slice_index}
use Rattle.std.specs.Prelude.{slice_index_or}
use Rattle.loops.specs.StartRows.{AreBy}
use Rattle.loops.proofs.table.counts_by.Given as goal

abbrev pub invariant-loop-row : goal.invariant-loop-row
invariant-loop-row l = record {
  rows : length l.counts.items ≡ l.row-index;
  each : (a : ℕ) → a < l.row-index → AreBy (slice_index_or l.starts a []) l.moment (slice_index l.counts.items a);
}
