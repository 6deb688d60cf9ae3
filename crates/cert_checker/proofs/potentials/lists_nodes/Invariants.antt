use Rattle.cert_checker.specs.inside.Listed.{UpTo}
use Rattle.cert_checker.proofs.potentials.lists_nodes.Given as goal

abbrev pub invariant-loop-node : goal.invariant-loop-node
invariant-loop-node l = UpTo l.graph l.potentials l.node l.next
