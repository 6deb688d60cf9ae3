use Rattle.std.proofs.Common.{◌≡◌, length}
use Rattle.scenario_reader.specs.ScenarioSections.{all_share}
use Rattle.scenario_reader.proofs.shared.all_share.Given as goal

abbrev pub invariant-loop-left : goal.invariant-loop-left
invariant-loop-left l = all_share l.shared l.left ≡ all_share l.shared l.scenarios

abbrev pub decreases-loop-left : goal.decreases-loop-left
decreases-loop-left l = length l.left
