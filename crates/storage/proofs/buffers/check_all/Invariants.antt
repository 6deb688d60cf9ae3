use Rattle.std.proofs.Common.{◌≡◌, drop}
use Rattle.storage.specs.NamedBuffers.{first_fault}
use Rattle.storage.proofs.buffers.check_all.Given as goal

abbrev pub invariant-loop-buffer : goal.invariant-loop-buffer
invariant-loop-buffer l = first_fault l.channels (drop l.buffer-index l.buffers) ≡ first_fault l.channels l.buffers
