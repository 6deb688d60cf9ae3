use Rattle.std.proofs.Common.{◌≡◌, ◌≤◌, [], length, map}
use Rattle.file_text.specs.Node.{tree_of, children_of}
use Rattle.graph_reader.specs.declared.field.Field.TheVariants as field
use Rattle.graph_reader.specs.Field.{word_of}
use Rattle.graph_reader.specs.TreeSteps.{named, each}
use Rattle.scenario_reader.specs.ScenarioSections.{scenario_of}
use Rattle.scenario_reader.proofs.scenarios.read_scenarios.Given as goal

abbrev pub invariant-loop-child : goal.invariant-loop-child
invariant-loop-child l = record {
  same : each scenario_of l.scenarios (named (word_of field.Scenario) (map tree_of l.left)) ≡ each scenario_of [] (named (word_of field.Scenario) (children_of (tree_of l.section)));
  few : length l.scenarios ≤ 64;
}

abbrev pub decreases-loop-child : goal.decreases-loop-child
decreases-loop-child l = length l.left
