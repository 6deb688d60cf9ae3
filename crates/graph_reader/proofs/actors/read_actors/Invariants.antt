use Rattle.std.proofs.Common.{◌≡◌, ◌≤◌, [], length, map}
use Rattle.file_text.specs.Node.{tree_of, children_of}
use Rattle.graph_reader.specs.declared.field.Field.TheVariants as field
use Rattle.graph_reader.specs.Field.{word_of}
use Rattle.graph_reader.specs.TreeSteps.{named, each}
use Rattle.graph_reader.specs.Sections.{port_count, actor_of}
use Rattle.graph_reader.proofs.actors.read_actors.Given as goal

abbrev pub invariant-loop-child : goal.invariant-loop-child
invariant-loop-child l = record {
  same : each (actor_of l.kind l.of) l.actors (named (word_of field.Actor) (map tree_of l.left)) ≡ each (actor_of l.kind l.of) [] (named (word_of field.Actor) (children_of (tree_of l.section)));
  counted : l.ports ≡ port_count l.actors;
  few_ports : l.ports ≤ 1024;
  few_actors : length l.actors ≤ 128;
}

abbrev pub decreases-loop-child : goal.decreases-loop-child
decreases-loop-child l = length l.left
