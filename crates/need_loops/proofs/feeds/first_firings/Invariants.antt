use Rattle.need_loops.proofs.FeedsGoOn.{AreNextBelow}
use Rattle.need_loops.proofs.feeds.first_firings.Given as goal

abbrev pub invariant-loop-actor : goal.invariant-loop-actor
invariant-loop-actor g l = AreNextBelow (g.F.Firing.net l.wired.net.now) l.actor l.firings.items
