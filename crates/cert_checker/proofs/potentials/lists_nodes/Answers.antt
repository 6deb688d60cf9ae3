use Rattle.cert_checker.proofs.PotentialListsDecide.{end-decides}
use Rattle.cert_checker.proofs.potentials.lists_nodes.Goals as goal

pub returns : goal.returns
returns c = end-decides c.args.graph.now c.args.potentials.now c.args.marks.now c.loop-node.node c.loop-node.next c.requires.marks c.loop-node-test.false c.loop-node.invariant
