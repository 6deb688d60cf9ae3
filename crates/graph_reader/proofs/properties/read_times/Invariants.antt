use Rattle.std.proofs.Common.{◌≡◌, [], length, map}
use Rattle.std.specs.Prelude.{codes}
use Rattle.file_text.specs.Node.{tree_of}
use Rattle.graph_reader.specs.TreeSteps.{named, each}
use Rattle.graph_reader.specs.Sections.{time_entry}
use Rattle.graph_reader.proofs.properties.read_times.Given as goal

abbrev pub invariant-loop-child : goal.invariant-loop-child
invariant-loop-child l = record {
  same : each (time_entry l.kind l.of l.actors) l.times (named (codes "actorProperties") (map tree_of l.left)) ≡ each (time_entry l.kind l.of l.actors) [] (named (codes "actorProperties") (map tree_of l.initial.left));
}

abbrev pub decreases-loop-child : goal.decreases-loop-child
decreases-loop-child l = length l.left
