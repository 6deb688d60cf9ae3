use Rattle.std.proofs.Common.{◌≡◌, ◌++◌, take}
use Rattle.automaton.specs.TimedGraphs.{edges_from}
use Rattle.automaton.proofs.edges.add_states.Given as goal

abbrev pub invariant-loop-place : goal.invariant-loop-place
invariant-loop-place l = l.edges.items ≡ l.initial.edges.items ++ edges_from l.tokens 0 l.matrices (take l.place l.states)
