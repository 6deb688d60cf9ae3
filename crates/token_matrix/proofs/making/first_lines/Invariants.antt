use Rattle.std.proofs.Common.{◌≡◌, ◌<◌, ℕ, [], length}
use Rattle.std.specs.Prelude.{slice_index_or}
use Rattle.token_matrix.specs.Stamps.{no_row, first_of}
use Rattle.token_matrix.specs.inside.Tokens.{IsFirstLine}
use Rattle.token_matrix.proofs.making.first_lines.Given as goal

abbrev pub invariant-loop-channel : goal.invariant-loop-channel
invariant-loop-channel l = record {
  long : length l.lines.items ≡ l.channel-index;
  each : (i : ℕ) → i < l.channel-index → IsFirstLine l.size (first_of l.shared l.graph i) (slice_index_or l.graph.channels i no_row).tokens (slice_index_or l.lines.items i []);
}
