use Rattle.std.proofs.Common.{◌≡◌, ℕ, [], length}
use Rattle.std.specs.Prelude.{slice_index_or}
use Rattle.entry_ways.proofs.column.free_rows.Given as goal

-- as many lists as actors so far, all empty
abbrev pub invariant-loop-actor : goal.invariant-loop-actor
invariant-loop-actor g l = (length l.rows.items ≡ l._actor) × ((a : ℕ) → slice_index_or l.rows.items a [] ≡ [])
