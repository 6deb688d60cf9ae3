use Rattle.std.proofs.Common.{◌≡◌, length, map}
use Rattle.std.specs.Prelude.{codes}
use Rattle.std.specs.List.{find}
use Rattle.file_text.specs.Node.{tree_of, children_of}
use Rattle.graph_reader.specs.TreeSteps.{named}
use Rattle.graph_reader.specs.Sections.{is_default}
use Rattle.graph_reader.proofs.properties.counting_processor.Given as goal

abbrev pub invariant-loop-processor : goal.invariant-loop-processor
invariant-loop-processor l = find is_default (named (codes "processor") (map tree_of l.left)) ≡ find is_default (named (codes "processor") (children_of (tree_of l.element)))

abbrev pub decreases-loop-processor : goal.decreases-loop-processor
decreases-loop-processor l = length l.left
