use Rattle.std.proofs.Common.{◌≡◌, [], length, map}
use Rattle.std.specs.Prelude.{codes}
use Rattle.file_text.specs.Node.{tree_of, children_of}
use Rattle.graph_reader.specs.TreeSteps.{named, each}
use Rattle.scenario_reader.specs.ScenarioSections.{next_of}
use Rattle.scenario_reader.proofs.successors.read_successors.Given as goal

abbrev pub invariant-loop-child : goal.invariant-loop-child
invariant-loop-child l = each (next_of l.states l.of) l.next (named (codes "next") (map tree_of l.left)) ≡ each (next_of l.states l.of) [] (named (codes "next") (children_of (tree_of l.element)))

abbrev pub decreases-loop-child : goal.decreases-loop-child
decreases-loop-child l = length l.left
