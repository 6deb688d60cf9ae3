use Rattle.std.proofs.Common.{◌≡◌, ◌<◌, ℕ, true, false}
use Rattle.std.specs.Prelude.{◌↔◌, Contains, slice_index_or}
use Rattle.scenario_storage.proofs.shown.listed.Given as goal

abbrev pub invariant-loop-place : goal.invariant-loop-place
invariant-loop-place l = (c : ℕ) → Contains l.list c ↔ ((c < l.place) × (slice_index_or l.marks c false ≡ true))
