use Rattle.need_loops.specs.inside.Needing.{AreDue, AreNext}
use Rattle.need_loops.proofs.needs.extend_all.Given as goal

abbrev pub invariant-loop-sweep : goal.invariant-loop-sweep
invariant-loop-sweep g l = record {
  due : AreDue (g.F.Firing.net l.wired.net.now) l.reach.until l.starts;
  nexts : AreNext (g.F.Firing.net l.wired.net.now) l.starts l.firings;
}
