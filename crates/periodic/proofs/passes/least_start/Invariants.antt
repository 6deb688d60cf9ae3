use Rattle.std.proofs.Common.{◌*◌}
use Rattle.periodic.specs.inside.Passes.{IsLeastStart}
use Rattle.periodic.proofs.passes.least_start.Given as goal

abbrev pub invariant-loop-actor : goal.invariant-loop-actor
invariant-loop-actor l = IsLeastStart l.table (l.most * l.table.period) l.actor l.least
