use Rattle.std.proofs.Common.{◌≡◌, ℕ, ◌≤◌, drop, length}
use Rattle.std.specs.BTreeMap.{get}
use Rattle.cert_checker.specs.ListedNodes.{weight_between}
use Rattle.cert_checker.specs.inside.Spaces.{pair_cmp}
use Rattle.cert_checker.proofs.weights.Weights.of.Given as goal

abbrev pub invariant-loop-left : goal.invariant-loop-left
invariant-loop-left l = record {
  within : l.left ≤ length l.edges;
  kept : (u v : ℕ) → get pair_cmp l.between (u, v) ≡ weight_between (drop l.left l.edges) u v;
}

abbrev pub decreases-loop-left : goal.decreases-loop-left
decreases-loop-left l = l.left
