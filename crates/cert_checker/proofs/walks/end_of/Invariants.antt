use Rattle.std.proofs.Common.{◌≡◌, length}
use Rattle.cert_checker.specs.ListedNodes.{end_of}
use Rattle.cert_checker.proofs.walks.end_of.Given as goal

abbrev pub invariant-loop-rest : goal.invariant-loop-rest
invariant-loop-rest l = end_of l.end l.rest ≡ end_of l.fn.first l.nodes

abbrev pub decreases-loop-rest : goal.decreases-loop-rest
decreases-loop-rest l = length l.rest
