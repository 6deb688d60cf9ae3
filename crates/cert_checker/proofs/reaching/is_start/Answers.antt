use Rattle.std.proofs.Common.{◌*◌}
use Rattle.cert_checker.proofs.MarksShowReached.{start-decides}
use Rattle.cert_checker.proofs.reaching.is_start.Goals as goal

pub returns-then-first-node : goal.returns-then-first-node
returns-then-first-node c = start-decides (c.args.graph.now.initial * c.args.graph.now.tokens) c.args.graph.now.tokens c.args.node c.if-first-node.true
