use Rattle.std.proofs.Common.{◌≡◌, ◌++◌, take}
use Rattle.automaton.specs.TimedGraphs.{edges_into}
use Rattle.automaton.proofs.edges.add_row.Given as goal

abbrev pub invariant-loop-column : goal.invariant-loop-column
invariant-loop-column l = l.edges.items ≡ l.initial.edges.items ++ edges_into l.from l.to (take l.column l.row)
