use Rattle.std.proofs.Common.{◌≡◌, ◌<◌, ℕ}
use Rattle.std.specs.Prelude.{slice_index_or}
use Rattle.token_matrix.specs.Stamps.{no_row}
use Rattle.token_matrix.proofs.making.channel_named.Given as goal

abbrev pub invariant-loop-number : goal.invariant-loop-number
invariant-loop-number l = (i : ℕ) → i < l.number → (slice_index_or l.graph.channels i no_row).name ≡ l.name → ⊥
