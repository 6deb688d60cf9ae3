use Rattle.std.proofs.Common.{◌≡◌, ◌+◌, ◌++◌, [], ◌∷◌, List, take, ap, refl, subst, sym, ◌∙◌, arith}
use Rattle.std.specs.List.{AllZip}
use Rattle.std.proofs.lemmas.List.{take_more}
use Rattle.pareto_front.specs.declared.point.Point.{Point}
use Rattle.sd_command.specs.declared.commands.shown_points.PointTask.{PointTask}
use Rattle.sd_command.specs.inside.PointTasks.{IsTaskOf}
use Rattle.sd_command.proofs.command_lemmas.PointSchedules.{zip-pushed}
use Rattle.sd_command.proofs.commands.shown_points.tasks_of.Goals as goal

pub loop-point-preserved : goal.loop-point-preserved
loop-point-preserved g c =
    let points = c.args.points.now in
    let k = c.loop-point.point-index in
    let p = c.point-item.result in
    let T : Type 0 = PointTask g.row.F.Denot in
    let R : Point → T → Type 0 = λ q t. IsTaskOf c.args.graph.now (g.F.Firing.net c.args.net.now) q t.graph.now (g.F.Firing.net t.net.now) t.point.now in
    let more : take k points ++ p ∷ [] ≡ take (k + 1) points =
    sym (take_more points k p (omega (arith, c.loop-point-test.true, c.loop-point.auto.point-index-end)) ∙ ap (λ (q : Point). take k points ++ q ∷ []) (sym c.point-item.is)) in
    subst (λ (ps : List Point). AllZip R ps c.push.new.self.items) more
    (zip-pushed R (take k points) c.loop-point.tasks.items c.push.new.self.items p _ c.in_ok-push.ensures.items c.loop-point.invariant (record { graph_is = refl; net_is = refl; point_is = refl }))
