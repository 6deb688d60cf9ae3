use Rattle.std.proofs.Common.{take}
use Rattle.std.specs.List.{AllZip}
use Rattle.sd_command.specs.inside.PointTasks.{IsTaskOf}
use Rattle.sd_command.proofs.commands.shown_points.tasks_of.Given as goal

abbrev pub invariant-loop-point : goal.invariant-loop-point
invariant-loop-point g l = AllZip (λ p t. IsTaskOf l.graph (g.F.Firing.net l.net) p t.graph.now (g.F.Firing.net t.net.now) t.point.now) (take l.point-index l.points) l.tasks.items
