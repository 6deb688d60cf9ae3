use Rattle.std.specs.Global.{Vec}
use Rattle.std.proofs.Common.{◌∙◌, List, ap, refl, subst, arith}
use Rattle.std.specs.List.{AllZip}
use Rattle.std.proofs.lemmas.Result.{err_from_is_err_and}
use Rattle.sd_base.specs.Net.{Net}
use Rattle.periodic.specs.declared.schedule.Periodic.{Periodic}
use Rattle.pareto_front.specs.declared.point.Point.{Point}
use Rattle.pareto_search.specs.TradeOffs.{IsTradeOff}
use Rattle.report.specs.StorageTexts.{points_lines}
use Rattle.sd_command.specs.commands.Points.{ArePointsShown, IsPointSchedule}
use Rattle.sd_command.proofs.command_lemmas.AnalysesEndCommands.{few_from}
use Rattle.sd_command.proofs.command_lemmas.PointAnswers.{points-answer, search-lacks, search-stops}
use Rattle.sd_command.proofs.command_lemmas.PointTasks.{points-showable}
use Rattle.sd_command.specs.Entrances.{for_points}
use Rattle.sd_command.proofs.commands.points.without_certificate.Goals as goal

pub shown_points-requires-after_bounds : goal.shown_points-requires-after_bounds
shown_points-requires-after_bounds g c κs within =
    points-showable c.args.graph.now (g.F.Firing.net c.args.net.now) c.args.wanted.now.limits c.requires.named c.requires.explorable c.requires.limits.total
    c.in_ok-points.points.items c.as_slice.result.now c.as_slice.ensures.value c.in_ok-points.ensures.does

pub returns-in_err-points-clause-goes : goal.returns-in_err-points-clause-goes
returns-in_err-points-clause-goes g c = λ faults.
    let net : Net = g.F.Firing.net c.args.net.now in
    let limits = c.args.wanted.now.limits in
    let p = err_from_is_err_and c.from_residual.result c.from_residual.ensures.1 in
    rw (p.1, p.2) (search-stops c.args.graph.now net c.args.wanted.now _ faults (λ (v : Vec Point). IsTradeOff net limits v.items) (few_from net limits _ _ c.in_err-points.ensures.most) _ c.in_err-points.ensures.does)

pub returns-in_err-shown-clause-goes : goal.returns-in_err-shown-clause-goes
returns-in_err-shown-clause-goes g c = λ faults.
    let net : Net = g.F.Firing.net c.args.net.now in
    let p = err_from_is_err_and c.from_residual-in_err-shown.result c.from_residual-in_err-shown.ensures.1 in
    rw (p.1, p.2) (search-lacks c.args.graph.now net c.args.wanted.now _ faults (few_from net c.args.wanted.now.limits _ _ c.in_ok-points.ensures.most))

pub returns-clause-goes : goal.returns-clause-goes
returns-clause-goes g c = λ faults.
    let net : Net = g.F.Firing.net c.args.net.now in
    let points : List Point = c.in_ok-points.points.items in
    let schedules : List Periodic = c.in_ok-shown.shown.schedules.items in
    let shown : ArePointsShown net c.args.wanted.now.limits points schedules = record {
      trade_off = c.in_ok-points.ensures.does;
      reached = subst (λ (ps : List Point). AllZip (IsPointSchedule net) ps schedules) c.as_slice.ensures.value c.in_ok-shown.ensures.schedules;
    } in
    points-answer c.args.graph.now net c.args.wanted.now _ faults points schedules shown
    (c.in_ok-points.ensures.live _ (omega (arith, c.in_ok-points.ensures.rises)))
    (omega (arith, c.in_ok-points.ensures.least))
    _ (c.in_ok-shown.ensures.text ∙ ap (λ (ps : List Point). points_lines c.args.graph.now ps schedules) c.as_slice.ensures.value)
    (rw c.requires.asked refl)

pub returns-clause-entered : goal.returns-clause-entered
returns-clause-entered g c = for_points c.requires.asked (c.in_ok-points.ensures.entered _ (omega (arith, c.in_ok-points.ensures.rises)))
