use Rattle.std.proofs.Common.{◌≡◌, ◌-◌, ◌≤◌, Some, length, take, true}
use Rattle.file_text.specs.inside.Machine.{run, start}
use Rattle.file_text.specs.inside.Seen.{state_of}
use Rattle.file_text.proofs.read.read_tree.Given as goal

abbrev pub invariant-loop-i : goal.invariant-loop-i
invariant-loop-i l = record {
  within : l.i ≤ length l.bytes;
  same : run true (Some start) (take l.i l.bytes) ≡ Some (state_of l.scanner);
}

abbrev pub decreases-loop-i : goal.decreases-loop-i
decreases-loop-i l = length l.bytes - l.i
