use Rattle.need_loops.proofs.DueRowsAreSelfTimed.{IsGrown}
use Rattle.need_loops.proofs.needs.extend.Given as goal

abbrev pub invariant-loop-firing : goal.invariant-loop-firing
invariant-loop-firing g l = IsGrown (g.F.Firing.net l.net) l.until l.actor l.fn.starts l.starts l.next l.firing
