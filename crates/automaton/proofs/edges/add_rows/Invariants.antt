use Rattle.std.proofs.Common.{◌≡◌, ◌++◌, take}
use Rattle.automaton.specs.TimedGraphs.{edges_between}
use Rattle.automaton.proofs.edges.add_rows.Given as goal

abbrev pub invariant-loop-row : goal.invariant-loop-row
invariant-loop-row l = l.edges.items ≡ l.initial.edges.items ++ edges_between l.from l.to (take l.row l.rows)
