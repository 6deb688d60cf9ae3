use Rattle.loops.specs.StartRows.{AreBetween}
use Rattle.loops.proofs.table.starts_between.Given as goal

abbrev pub invariant-loop-actor : goal.invariant-loop-actor
invariant-loop-actor l = AreBetween l.starts l.before l.until l.actor l.rows.items
