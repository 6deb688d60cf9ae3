use Rattle.std.proofs.Common.{◌≡◌, ◌++◌, All, take}
use Rattle.std.specs.String.{string_bytes}
use Rattle.std.specs.List.{flat_map}
use Rattle.cert_text.specs.BufferLines.{buffer_text}
use Rattle.cert_text.proofs.writing.buffers.put_each.Given as goal
use Rattle.cert_text.specs.Limits.{IsBufferWithin}

abbrev pub invariant-loop-buffer : goal.invariant-loop-buffer
invariant-loop-buffer l = record { text : string_bytes l.text ≡ string_bytes l.initial.text ++ flat_map buffer_text (take l.buffer-index l.buffers); within : All IsBufferWithin (take l.buffer-index l.buffers) }
