use Rattle.std.proofs.Common.{arith}
use Rattle.sd_base.proofs.ElementsKeepPlaces.{many-more}
use Rattle.cert_checker.proofs.MarksShowReached.{starts-more, starts-all}
use Rattle.cert_checker.proofs.reaching.starts.Goals as goal

pub loop-node-preserved : goal.loop-node-preserved
loop-node-preserved c = record {
  size = many-more c.loop-node.marks.items c.push.new.self.items c.is_start.result c.loop-node.node c.loop-node.invariant.size c.in_ok-push.ensures.items;
  starts = starts-more c.args.graph.now c.loop-node.marks.items c.push.new.self.items c.loop-node.node c.is_start.result c.loop-node.invariant.size c.loop-node.invariant.starts c.is_start.ensures c.in_ok-push.ensures.items;
}

pub returns-clause-starts : goal.returns-clause-starts
returns-clause-starts c = starts-all c.args.graph.now c.loop-node.marks.items c.loop-node.node c.requires.some_state c.loop-node.invariant.size (omega (arith, c.loop-node-test.false, c.loop-node.auto.node-end)) c.loop-node.invariant.starts
