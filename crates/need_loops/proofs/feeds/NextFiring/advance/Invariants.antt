use Rattle.std.proofs.Common.{◌≡◌}
use Rattle.need_loops.proofs.FeedsGoOn.{AreAdvanced}
use Rattle.need_loops.proofs.feeds.NextFiring.advance.Given as goal

abbrev pub invariant-loop-place : goal.invariant-loop-place
invariant-loop-place g l = record {
  pause : l.self.pause ≡ l.fn.self.pause;
  steps : AreAdvanced l.place l.fn.self.feeds.items l.self.feeds.items;
}
