use Rattle.std.proofs.Common.{◌≡◌, ◌+◌, ◌<◌, All, length}
use Rattle.automaton.specs.CriticalCycles.{weights}
use Rattle.cert_maker.proofs.worst_rates.time_of.Given as goal

abbrev pub invariant-loop-left : goal.invariant-loop-left
invariant-loop-left l = record {
  same : l.time + weights l.edges l.left ≡ weights l.edges l.cycle;
  edges : All (λ k. k < length l.edges) l.left;
}

abbrev pub decreases-loop-left : goal.decreases-loop-left
decreases-loop-left l = length l.left
