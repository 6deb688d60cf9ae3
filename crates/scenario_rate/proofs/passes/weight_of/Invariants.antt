use Rattle.std.proofs.Common.{◌≡◌, ◌≤◌, ◌*◌, take}
use Rattle.automaton.specs.CriticalCycles.{weights}
use Rattle.scenario_rate.proofs.passes.weight_of.Given as goal

abbrev pub invariant-loop-number : goal.invariant-loop-number
invariant-loop-number l = record {
  sum : l.sum ≡ weights l.edges (take l.number-index l.numbers);
  small : l.sum ≤ l.number-index * 100000000000000;
}
