use Rattle.std.proofs.Common.{◌<◌, []}
use Rattle.critical.specs.declared.cycle.FiringNo.{FiringNo}
use Rattle.critical.specs.inside.Trails.{IsSecond, class_at}
use Rattle.critical.specs.inside.Searches.{IsMarked, IsSearch}
use Rattle.critical.proofs.unspaced.Pass.way_round.Given as goal

abbrev pub invariant-loop-actor : goal.invariant-loop-actor
invariant-loop-actor g l = record {
  so_far : IsSearch (g.F.Firing.net l.self.wired.now.net.now) l.self.table.now [] l.marks;
  marked : (x : FiringNo) → IsSecond l.self.table.now x → x.actor < l.actor → IsMarked l.marks (class_at l.self.table.now x);
}
