use Rattle.automaton.proofs.StartsAreFirstNodes.{start-decides}
use Rattle.automaton.proofs.graph.TimedGraph.is_start.Goals as goal

pub returns-then-first-node : goal.returns-then-first-node
returns-then-first-node c = start-decides c.args.self.now c.args.node c.if-first-node.true
