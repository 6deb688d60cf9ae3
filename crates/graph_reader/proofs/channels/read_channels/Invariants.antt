use Rattle.std.proofs.Common.{◌≡◌, ◌≤◌, [], length, map}
use Rattle.file_text.specs.Node.{tree_of, children_of}
use Rattle.graph_reader.specs.declared.field.Field.TheVariants as field
use Rattle.graph_reader.specs.Field.{word_of}
use Rattle.graph_reader.specs.TreeSteps.{named, each}
use Rattle.graph_reader.specs.Sections.{channel_of}
use Rattle.graph_reader.proofs.channels.read_channels.Given as goal

abbrev pub invariant-loop-child : goal.invariant-loop-child
invariant-loop-child l = record {
  same : each (channel_of l.of l.actors) l.channels (named (word_of field.Channel) (map tree_of l.left)) ≡ each (channel_of l.of l.actors) [] (named (word_of field.Channel) (children_of (tree_of l.section)));
  few : length l.channels ≤ 256;
}

abbrev pub decreases-loop-child : goal.decreases-loop-child
decreases-loop-child l = length l.left
