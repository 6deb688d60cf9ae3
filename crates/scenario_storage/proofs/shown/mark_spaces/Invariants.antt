use Rattle.std.proofs.Common.{◌≡◌, ◌<◌, ℕ, true, false, length}
use Rattle.std.specs.Prelude.{◌↔◌, ◌⊎◌, slice_index_or}
use Rattle.scenario_storage.specs.inside.Shown.{HasSpace}
use Rattle.scenario_storage.proofs.shown.mark_spaces.Given as goal

abbrev pub invariant-loop-place : goal.invariant-loop-place
invariant-loop-place l =
    (length l.marks ≡ length l.initial.marks)
    × ((c : ℕ) → c < length l.initial.marks → (slice_index_or l.marks c false ≡ true) ↔
    ((slice_index_or l.initial.marks c false ≡ true) ⊎ ((c < l.place) × ((i : ℕ) × HasSpace l.spaces c i × (slice_index_or l.taken i false ≡ true)))))
