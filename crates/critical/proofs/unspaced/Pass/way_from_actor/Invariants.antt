use Rattle.std.proofs.Common.{◌≡◌, ◌+◌, ◌<◌}
use Rattle.critical.specs.declared.cycle.FiringNo.{FiringNo}
use Rattle.critical.specs.inside.Trails.{IsSecond, second_of, class_at}
use Rattle.critical.specs.inside.Searches.{IsMarked, GoesOn}
use Rattle.critical.proofs.unspaced.Pass.way_from_actor.Given as goal

abbrev pub invariant-loop-behind : goal.invariant-loop-behind
invariant-loop-behind g l = record {
  goes : GoesOn (g.F.Firing.net l.self.wired.now.net.now) l.self.table.now l.initial.marks l.marks;
  marked : (x : FiringNo) → IsSecond l.self.table.now x → x.actor ≡ l.actor → x.number < second_of l.self.table.now l.actor + l.behind → IsMarked l.marks (class_at l.self.table.now x);
}
