use Rattle.std.proofs.Common.{◌≡◌, length}
use Rattle.scenario_reader.specs.ScenarioSections.{stray}
use Rattle.scenario_reader.proofs.shared.stray.Given as goal

abbrev pub invariant-loop-left : goal.invariant-loop-left
invariant-loop-left l = stray l.left l.others ≡ stray l.rows l.others

abbrev pub decreases-loop-left : goal.decreases-loop-left
decreases-loop-left l = length l.left
