use Rattle.std.proofs.Common.{◌≡◌, [], length, map}
use Rattle.file_text.specs.Node.{tree_of, children_of}
use Rattle.graph_reader.specs.declared.field.Field.TheVariants as field
use Rattle.graph_reader.specs.Field.{word_of}
use Rattle.graph_reader.specs.TreeSteps.{named}
use Rattle.scenario_reader.specs.ScenarioSections.{rows_from}
use Rattle.scenario_reader.proofs.successors.read_rows.Given as goal

abbrev pub invariant-loop-left : goal.invariant-loop-left
invariant-loop-left l = rows_from l.states l.rows l.left (named (word_of field.State) (map tree_of l.elements)) ≡ rows_from l.states [] l.states (named (word_of field.State) (children_of (tree_of l.fsm)))

abbrev pub decreases-loop-left : goal.decreases-loop-left
decreases-loop-left l = length l.left
