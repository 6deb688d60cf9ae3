use Rattle.std.proofs.Common.{◌≡◌, ◌≤◌, length}
use Rattle.cert_checker.specs.ListedNodes.{time_on}
use Rattle.cert_checker.proofs.walks.takes.Given as goal

abbrev pub invariant-loop-rest : goal.invariant-loop-rest
invariant-loop-rest l = record {
  same : time_on l.graph l.so_far l.from l.rest ≡ time_on l.graph 0 l.fn.first l.nodes;
  within : l.so_far ≤ l.time;
}

abbrev pub decreases-loop-rest : goal.decreases-loop-rest
decreases-loop-rest l = length l.rest
