use Rattle.std.proofs.Common.{true≢false}
use Rattle.cert_checker.proofs.MarksShowReached.{all-reached, starts-sound}
use Rattle.cert_checker.proofs.reaching.reached.Goals as goal

pub loop-spreads-init : goal.loop-spreads-init
loop-spreads-init c = record {
  size = c.in_ok-marks.ensures.size;
  reached = starts-sound c.args.graph.now c.in_ok-marks.marks.items c.in_ok-marks.ensures.starts;
  starts = λ v start. (c.in_ok-marks.ensures.starts v).1 start;
  kept = λ off. absurd (true≢false off);
}

pub returns : goal.returns
returns c = all-reached c.args.graph.now c.loop-spreads.marks.items c.loop-spreads.invariant.size c.loop-spreads.invariant.reached c.loop-spreads.invariant.starts (c.loop-spreads.invariant.kept c.loop-spreads-test.false)
