use Rattle.std.specs.List.{sum_by}
use Rattle.selftimed.proofs.EventQueuesTellWhoRuns.{due}
use Rattle.selftimed.proofs.FiringsEnd.{EndsSoFar}
use Rattle.selftimed.proofs.event.Event.end_all.Given as goal

abbrev pub invariant-loop-actor : goal.invariant-loop-actor
invariant-loop-actor g l = EndsSoFar (g.F.Firing.net l.self.net.now) l.self.moment l.initial.actors l.actors l.tokens l.event_queue.ends l.event_queue.touched.items

abbrev pub decreases-loop-actor : goal.decreases-loop-actor
decreases-loop-actor g l = sum_by (due l.self.moment) l.event_queue.ends
