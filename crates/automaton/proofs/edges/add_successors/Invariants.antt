use Rattle.std.proofs.Common.{◌≡◌, ◌++◌, take}
use Rattle.automaton.specs.TimedGraphs.{edges_out}
use Rattle.automaton.proofs.edges.add_successors.Given as goal

abbrev pub invariant-loop-place : goal.invariant-loop-place
invariant-loop-place l = l.edges.items ≡ l.initial.edges.items ++ edges_out l.tokens l.from l.rows (take l.place l.next)
