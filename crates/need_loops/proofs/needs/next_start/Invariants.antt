use Rattle.need_loops.proofs.DueRowsAreSelfTimed.{AreFedBy}
use Rattle.need_loops.proofs.needs.next_start.Given as goal

abbrev pub invariant-loop-feed : goal.invariant-loop-feed
invariant-loop-feed g l = AreFedBy (g.F.Firing.net l.net) l.starts l.actor l.next l.feed-index l.start
