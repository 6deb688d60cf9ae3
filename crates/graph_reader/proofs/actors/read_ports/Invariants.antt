use Rattle.std.proofs.Common.{◌≡◌, ◌+◌, ◌≤◌, [], length, map}
use Rattle.std.specs.Prelude.{codes}
use Rattle.file_text.specs.Node.{tree_of, children_of}
use Rattle.graph_reader.specs.TreeSteps.{named, each}
use Rattle.graph_reader.specs.Sections.{port_of}
use Rattle.graph_reader.proofs.actors.read_ports.Given as goal

abbrev pub invariant-loop-child : goal.invariant-loop-child
invariant-loop-child l = record {
  same : each (port_of l.kind l.actor l.before) l.ports (named (codes "port") (map tree_of l.left)) ≡ each (port_of l.kind l.actor l.before) [] (named (codes "port") (children_of (tree_of l.element)));
  few : l.before + length l.ports ≤ 1024;
}

abbrev pub decreases-loop-child : goal.decreases-loop-child
decreases-loop-child l = length l.left
