use Rattle.need_loops.specs.inside.Needing.{AreDue, AreNext}
use Rattle.need_loops.proofs.needs.sweep.Given as goal

abbrev pub invariant-loop-actor : goal.invariant-loop-actor
invariant-loop-actor g l = record {
  due : AreDue (g.F.Firing.net l.wired.net.now) l.reach.until l.starts;
  nexts : AreNext (g.F.Firing.net l.wired.net.now) l.starts l.firings;
}
