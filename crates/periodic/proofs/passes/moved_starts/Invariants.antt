use Rattle.std.proofs.Common.{◌≡◌, ℕ, ◌<◌, [], length, vec_capacity, vec_len}
use Rattle.std.specs.Prelude.{slice_index_or}
use Rattle.periodic.specs.inside.Passes.{IsMoved}
use Rattle.periodic.proofs.passes.moved_starts.Given as goal

abbrev pub invariant-loop-actor : goal.invariant-loop-actor
invariant-loop-actor l = record {
  actors : length l.rows.items ≡ l.actor;
  len : vec_len l.rows ≡ l.actor;
  room : vec_capacity l.rows ≡ length l.table.starts;
  each : (a : ℕ) → a < l.actor → IsMoved l.table l.up l.down a (slice_index_or l.rows.items a []);
}
