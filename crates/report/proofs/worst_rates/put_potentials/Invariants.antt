use Rattle.std.proofs.Common.{◌≡◌, ◌+◌, ◌++◌, length}
use Rattle.std.specs.String.{string_bytes}
use Rattle.report.specs.WorstTexts.{potential_lines}
use Rattle.report.proofs.worst_rates.put_potentials.Given as goal

-- what is written and the lines that are left are all lines
abbrev pub invariant-loop-left : goal.invariant-loop-left
invariant-loop-left l = record {
  same : string_bytes l.text ++ potential_lines l.nodes.states.now l.nodes.shared.now l.graph.tokens l.node l.left ≡ string_bytes l.initial.text ++ potential_lines l.nodes.states.now l.nodes.shared.now l.graph.tokens 0 l.potentials;
  count : l.node + length l.left ≡ length l.potentials;
}

abbrev pub decreases-loop-left : goal.decreases-loop-left
decreases-loop-left l = length l.left
