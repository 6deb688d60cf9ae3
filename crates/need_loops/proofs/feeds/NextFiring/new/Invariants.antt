use Rattle.need_loops.proofs.FeedsGoOn.{AreFirst}
use Rattle.need_loops.proofs.feeds.NextFiring.new.Given as goal

abbrev pub invariant-loop-channel : goal.invariant-loop-channel
invariant-loop-channel g l = AreFirst (g.F.Firing.net l.wired.net.now) l.actor l.inputs l.channel-index l.pause l.feeds.items
