use Rattle.need_loops.proofs.RowLoops.{IsFirstOf}
use Rattle.need_loops.proofs.rows.event_from.Given as goal

abbrev pub invariant-loop-actor : goal.invariant-loop-actor
invariant-loop-actor g l = IsFirstOf (g.F.Firing.net l.net) l.starts l.from l.actor l.first
