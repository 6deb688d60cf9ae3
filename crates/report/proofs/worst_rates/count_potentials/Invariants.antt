use Rattle.std.proofs.Common.{◌≡◌, ◌+◌, ◌≤◌, length}
use Rattle.report.specs.WorstTexts.{potential_count}
use Rattle.report.proofs.worst_rates.count_potentials.Given as goal

abbrev pub invariant-loop-left : goal.invariant-loop-left
invariant-loop-left l = record {
  same : l.count + potential_count l.left ≡ potential_count l.potentials;
  few : l.count + length l.left ≤ length l.potentials;
}

abbrev pub decreases-loop-left : goal.decreases-loop-left
decreases-loop-left l = length l.left
