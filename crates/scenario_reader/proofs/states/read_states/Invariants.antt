use Rattle.std.proofs.Common.{◌≡◌, ◌≤◌, [], length, map}
use Rattle.file_text.specs.Node.{tree_of, children_of}
use Rattle.graph_reader.specs.declared.field.Field.TheVariants as field
use Rattle.graph_reader.specs.Field.{word_of}
use Rattle.graph_reader.specs.TreeSteps.{named, each}
use Rattle.scenario_reader.specs.ScenarioSections.{state_of}
use Rattle.scenario_reader.proofs.states.read_states.Given as goal

abbrev pub invariant-loop-child : goal.invariant-loop-child
invariant-loop-child l = record {
  same : each (state_of l.scenarios) l.states (named (word_of field.State) (map tree_of l.left)) ≡ each (state_of l.scenarios) [] (named (word_of field.State) (children_of (tree_of l.fsm)));
  few : length l.states ≤ 256;
}

abbrev pub decreases-loop-child : goal.decreases-loop-child
decreases-loop-child l = length l.left
