use Rattle.std.proofs.Common.{◌≡◌, ◌++◌, length}
use Rattle.scenario_reader.specs.ScenarioSections.{rows_of}
use Rattle.scenario_reader.proofs.shared.rows_of.Given as goal

abbrev pub invariant-loop-left : goal.invariant-loop-left
invariant-loop-left l = l.rows ++ rows_of l.left ≡ rows_of l.channels

abbrev pub decreases-loop-left : goal.decreases-loop-left
decreases-loop-left l = length l.left
