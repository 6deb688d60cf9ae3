use Rattle.std.proofs.Common.{◌≡◌}
use Rattle.selftimed.proofs.FiringsEnd.{TouchesSoFar}
use Rattle.selftimed.proofs.ends.DueActor.touch_targets.Given as goal

abbrev pub invariant-loop-channel : goal.invariant-loop-channel
invariant-loop-channel g l = TouchesSoFar (g.F.Firing.net l.self.net.now) l.tokens l.self.outputs.now l.initial.actors l.actors l.event_queue.touched.items l.channel-index × (l.event_queue.ends ≡ l.initial.event_queue.ends)
