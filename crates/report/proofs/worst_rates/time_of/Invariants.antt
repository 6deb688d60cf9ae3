use Rattle.std.proofs.Common.{◌≡◌, ◌+◌, ◌*◌, ◌≤◌, drop}
use Rattle.automaton.specs.CriticalCycles.{weights}
use Rattle.report.proofs.worst_rates.time_of.Given as goal

abbrev pub invariant-loop-k : goal.invariant-loop-k
invariant-loop-k l = record {
  same : l.time + weights l.edges (drop l.k-index l.cycle) ≡ weights l.edges l.cycle;
  small : l.time ≤ l.k-index * 18446744073709551615;
}
