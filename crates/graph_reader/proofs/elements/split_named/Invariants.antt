use Rattle.std.proofs.Common.{◌≡◌, ◌≤◌, length, map}
use Rattle.file_text.specs.Node.{tree_of}
use Rattle.graph_reader.specs.TreeSteps.{named}
use Rattle.graph_reader.proofs.elements.split_named.Given as goal

abbrev pub invariant-loop-left : goal.invariant-loop-left
invariant-loop-left l = record {
  same : named l.word (map tree_of l.left) ≡ named l.word (map tree_of l.elements);
  within : length l.left ≤ length l.elements;
}

abbrev pub decreases-loop-left : goal.decreases-loop-left
decreases-loop-left l = length l.left
