use Rattle.std.proofs.Common.{◌≡◌, length}
use Rattle.graph_reader.specs.TreeSteps.{first_value}
use Rattle.graph_reader.proofs.elements.value_named.Given as goal

abbrev pub invariant-loop-left : goal.invariant-loop-left
invariant-loop-left l = first_value l.word l.left ≡ first_value l.word l.initial.left

abbrev pub decreases-loop-left : goal.decreases-loop-left
decreases-loop-left l = length l.left
