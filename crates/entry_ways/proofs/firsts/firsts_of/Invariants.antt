use Rattle.std.proofs.Common.{◌≡◌, ◌<◌, ℕ, length}
use Rattle.std.specs.Prelude.{slice_index}
use Rattle.token_matrix.specs.Stamps.{first_of}
use Rattle.entry_ways.proofs.firsts.firsts_of.Given as goal

-- the numbers of the channels so far
abbrev pub invariant-loop-channel : goal.invariant-loop-channel
invariant-loop-channel l = record {
  long : length l.firsts.items ≡ l.channel-index;
  each : (i : ℕ) → i < l.channel-index → slice_index l.firsts.items i ≡ first_of l.shared l.graph i;
}
