use Rattle.std.proofs.Common.{ℕ, ◌<◌}
use Rattle.std.specs.Prelude.{slice_index_or}
use Rattle.cert_checker.specs.ListedNodes.{IsNode}
use Rattle.cert_checker.proofs.walks.are_nodes.Given as goal

abbrev pub invariant-loop-node : goal.invariant-loop-node
invariant-loop-node l = (j : ℕ) (d : ℕ × ℕ) → j < l.node-index → IsNode l.graph (slice_index_or l.nodes j d)
