use Rattle.std.proofs.Common.{ℕ, ◌<◌}
use Rattle.std.specs.Prelude.{slice_index_or}
use Rattle.cert_checker.specs.NumberedBuffers.{IsBuffer}
use Rattle.cert_checker.proofs.buffers.are_buffers.Given as goal

abbrev pub invariant-loop-buffer : goal.invariant-loop-buffer
invariant-loop-buffer l = (j : ℕ) (d : ℕ × ℕ) → j < l.buffer-index → IsBuffer l.channels (slice_index_or l.buffers j d)
