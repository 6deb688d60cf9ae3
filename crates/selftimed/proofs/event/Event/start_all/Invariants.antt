use Rattle.std.proofs.Common.{length}
use Rattle.selftimed.specs.inside.Actors.{HaveStarted}
use Rattle.selftimed.proofs.ActorsStartAllTheyCan.{StartsSoFar}
use Rattle.selftimed.proofs.event.Event.start_all.Given as goal

abbrev pub invariant-loop-actor : goal.invariant-loop-actor
invariant-loop-actor g l = record {
  so_far : StartsSoFar (g.F.Firing.net l.self.net.now) l.self.moment l.initial.actors l.actors l.tokens l.all l.self.most l.event_queue.ends l.event_queue.touched.items;
  starters : HaveStarted (g.F.Firing.net l.self.net.now) l.initial.actors l.actors l.event_queue.starters.items;
}

abbrev pub decreases-loop-actor : goal.decreases-loop-actor
decreases-loop-actor g l = length l.event_queue.touched.items
