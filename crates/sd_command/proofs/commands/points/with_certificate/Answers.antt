use Rattle.std.specs.Prelude.{Contains}
use Rattle.std.proofs.Common.{◌≡◌, ◌-◌, ◌∙◌, List, Some, ap, length, subst, arith}
use Rattle.std.specs.List.{AllZip}
use Rattle.std.proofs.lemmas.Result.{err_from_is_err_and}
use Rattle.std.proofs.lemmas.Slice.Zip.{AllZip-long}
use Rattle.sd_base.specs.Net.{Net}
use Rattle.periodic.specs.declared.schedule.Periodic.{Periodic}
use Rattle.pareto_front.specs.declared.point.Point.{Point}
use Rattle.explore.specs.declared.exploration.Exploration.{Exploration}
use Rattle.explore.specs.Explorations.{CountsLive, IsExploration, cycles_in}
use Rattle.report.specs.StorageTexts.{points_lines}
use Rattle.sd_steps.specs.declared.answer.Put.{Put}
use Rattle.sd_steps.specs.Certifyings.{Certifies}
use Rattle.sd_command.specs.commands.Points.{ArePointsShown, IsOfPoints, IsPointSchedule}
use Rattle.sd_command.proofs.command_lemmas.AnalysesEndCommands.{few_from}
use Rattle.sd_command.proofs.command_lemmas.PointAnswers.{certificate-put, certificate-stops, explored-trade_off, points-answer, search-lacks, search-stops}
use Rattle.sd_command.proofs.command_lemmas.PointSchedules.{zip-starts}
use Rattle.sd_command.proofs.command_lemmas.PointTasks.{points-showable}
use Rattle.sd_command.specs.Entrances.{for_members}
use Rattle.sd_command.proofs.commands.points.with_certificate.Goals as goal

pub shown_points-requires-after_bounds : goal.shown_points-requires-after_bounds
shown_points-requires-after_bounds g c κs within =
    points-showable c.args.graph.now (g.F.Firing.net c.args.net.now) c.args.wanted.now.limits c.requires.named c.requires.explorable c.requires.limits.total
    c.in_ok-exploration.exploration.points.items c.as_slice.result.now c.as_slice.ensures.value
    (explored-trade_off (g.F.Firing.net c.args.net.now) c.args.wanted.now.limits c.in_ok-exploration.exploration.members.items c.in_ok-exploration.exploration.points.items c.in_ok-exploration.ensures.does)

pub put_as-requires-clause-many : goal.put_as-requires-clause-many
put_as-requires-clause-many g c = AllZip-long _ _ _ c.in_ok-shown.ensures.schedules ∙ ap length c.as_slice.ensures.value

pub put_as-requires-clause-reached : goal.put_as-requires-clause-reached
put_as-requires-clause-reached g c =
    subst (λ (ps : List Point). AllZip (IsPointSchedule (g.F.Firing.net c.args.net.now)) ps c.in_ok-shown.shown.schedules.items) c.as_slice.ensures.value c.in_ok-shown.ensures.schedules

pub put_as-requires-clause-starts : goal.put_as-requires-clause-starts
put_as-requires-clause-starts g c =
    zip-starts (g.F.Firing.net c.args.net.now) c.know_laws.ensures c.requires.explorable c.args.wanted.now.limits c.requires.limits.total c.as_slice.result.now c.in_ok-shown.shown.schedules.items
    (λ p one. c.in_ok-exploration.ensures.does.reached p (subst (λ (ps : List Point). Contains ps p) c.as_slice.ensures.value one)) c.in_ok-shown.ensures.schedules

pub returns-in_err-exploration-clause-goes : goal.returns-in_err-exploration-clause-goes
returns-in_err-exploration-clause-goes g c = λ faults.
    let net : Net = g.F.Firing.net c.args.net.now in
    let limits = c.args.wanted.now.limits in
    let p = err_from_is_err_and c.from_residual.result c.from_residual.ensures.1 in
    rw (p.1, p.2) (search-stops c.args.graph.now net c.args.wanted.now _ faults (λ (e : Exploration). IsExploration net limits e.members.items e.points.items) (few_from net limits _ _ c.in_err-exploration.ensures.most) _ c.in_err-exploration.ensures.does)

pub returns-in_err-shown-clause-goes : goal.returns-in_err-shown-clause-goes
returns-in_err-shown-clause-goes g c = λ faults.
    let net : Net = g.F.Firing.net c.args.net.now in
    let p = err_from_is_err_and c.from_residual-in_err-shown.result c.from_residual-in_err-shown.ensures.1 in
    rw (p.1, p.2) (search-lacks c.args.graph.now net c.args.wanted.now _ faults (few_from net c.args.wanted.now.limits _ _ c.in_ok-exploration.ensures.most))

pub returns-in_err-put-clause-goes : goal.returns-in_err-put-clause-goes
returns-in_err-put-clause-goes g c = λ faults.
    let net : Net = g.F.Firing.net c.args.net.now in
    let wanted = c.args.wanted.now in
    let p = err_from_is_err_and c.from_residual-in_err-put.result c.from_residual-in_err-put.ensures.1 in
    let points : List Point = c.in_ok-exploration.exploration.points.items in
    let schedules : List Periodic = c.in_ok-shown.shown.schedules.items in
    let shown : ArePointsShown net wanted.limits points schedules = record {
      trade_off = explored-trade_off net wanted.limits c.in_ok-exploration.exploration.members.items points c.in_ok-exploration.ensures.does;
      reached = subst (λ (ps : List Point). AllZip (IsPointSchedule net) ps schedules) c.as_slice.ensures.value c.in_ok-shown.ensures.schedules;
    } in
    let cycles = cycles_in c.in_ok-exploration.exploration.members.items in
    let count : cycles ≡ c.explored.new.steps.count - c.args.steps.now.count = omega (arith, c.in_ok-exploration.ensures.counts) in
    rw (p.1, p.2) (certificate-stops c.args.graph.now net wanted _ faults points schedules shown
    (c.in_ok-exploration.ensures.live _ (omega (arith, c.in_ok-exploration.ensures.rises)))
    c.args.name.now c.requires.asked cycles count (λ (put : Put). Certifies (Some c.args.name.now) (IsOfPoints net wanted points schedules cycles) (Some put))
    (few_from net wanted.limits _ _ c.in_ok-exploration.ensures.most) _ c.in_err-put.ensures)

pub returns-clause-goes : goal.returns-clause-goes
returns-clause-goes g c = λ faults.
    let net : Net = g.F.Firing.net c.args.net.now in
    let wanted = c.args.wanted.now in
    let points : List Point = c.in_ok-exploration.exploration.points.items in
    let schedules : List Periodic = c.in_ok-shown.shown.schedules.items in
    let shown : ArePointsShown net wanted.limits points schedules = record {
      trade_off = explored-trade_off net wanted.limits c.in_ok-exploration.exploration.members.items points c.in_ok-exploration.ensures.does;
      reached = subst (λ (ps : List Point). AllZip (IsPointSchedule net) ps schedules) c.as_slice.ensures.value c.in_ok-shown.ensures.schedules;
    } in
    let cycles = cycles_in c.in_ok-exploration.exploration.members.items in
    let count : cycles ≡ c.explored.new.steps.count - c.args.steps.now.count = omega (arith, c.in_ok-exploration.ensures.counts) in
    let live : CountsLive net wanted.limits (c.explored.new.steps.count - c.args.steps.now.count) = c.in_ok-exploration.ensures.live _ (omega (arith, c.in_ok-exploration.ensures.rises)) in
    points-answer c.args.graph.now net wanted _ faults points schedules shown live
    (omega (arith, c.in_ok-exploration.ensures.least))
    _ (c.in_ok-shown.ensures.text ∙ ap (λ (ps : List Point). points_lines c.args.graph.now ps schedules) c.as_slice.ensures.value)
    (certificate-put c.args.graph.now net wanted _ faults points schedules shown live c.args.name.now c.requires.asked cycles count c.in_ok-put.put c.in_ok-put.ensures)

pub returns-clause-entered : goal.returns-clause-entered
returns-clause-entered g c =
    for_members c.args.name.now c.requires.asked c.in_ok-exploration.exploration.members.items c.in_ok-exploration.exploration.points.items c.in_ok-exploration.ensures.does
    (omega (arith, c.in_ok-exploration.ensures.counts)) c.in_ok-exploration.ensures.entered
