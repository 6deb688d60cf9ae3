use Rattle.std.proofs.Common.{◌≡◌, [], length, map}
use Rattle.std.specs.Prelude.{codes}
use Rattle.file_text.specs.Node.{tree_of}
use Rattle.graph_reader.specs.TreeSteps.{named, each}
use Rattle.graph_reader.specs.Sections.{size_entry}
use Rattle.graph_reader.proofs.properties.read_sizes.Given as goal

abbrev pub invariant-loop-child : goal.invariant-loop-child
invariant-loop-child l = record {
  same : each (size_entry l.of l.channels) l.sizes (named (codes "channelProperties") (map tree_of l.left)) ≡ each (size_entry l.of l.channels) [] (named (codes "channelProperties") (map tree_of l.initial.left));
}

abbrev pub decreases-loop-child : goal.decreases-loop-child
decreases-loop-child l = length l.left
