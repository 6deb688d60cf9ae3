use Rattle.std.proofs.Common.{◌≡◌, drop, map}
use Rattle.std.specs.String.{string_bytes}
use Rattle.sd_words.specs.Buffers.{buffers_of, with_parts}
use Rattle.sd_words.proofs.buffers.buffers_of.Given as goal

abbrev pub invariant-loop-part : goal.invariant-loop-part
invariant-loop-part l = record {
  names : map string_bytes l.names.set.keys ≡ map (λ b. b.0) l.buffers.items;
  read : with_parts l.buffers.items (drop l.part-index (map (λ p. p.now) l.part-items)) ≡ buffers_of l.value;
}
