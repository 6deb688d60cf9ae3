use Rattle.sd_io.proofs.FileNames.{DifferBelow}
use Rattle.sd_io.proofs.memory_shelf.names_differ.Given as goal

-- the names so far differ
abbrev pub invariant-loop-i : goal.invariant-loop-i
invariant-loop-i l = DifferBelow l.files l.i
