use Rattle.std.proofs.Common.{◌≡◌, ℕ, ◌<◌, ◌++◌, ◌∷◌, [], List, length, take, Some, Result, Ok, ap, subst, sym, ◌∙◌, rules}
use Rattle.std.specs.Prelude.{slice_index_or}
use Rattle.std.specs.List.{AllZip}
use Rattle.std.proofs.lemmas.Iterator.Adapters.{YieldsList-from_vec}
use Rattle.std.proofs.lemmas.Iterator.Consumers.{YieldsList-end, YieldsList-turn}
use Rattle.sd_base.specs.declared.memory.NoMemory.{NoMemory}
use Rattle.sd_base.specs.Net.{Net}
use Rattle.periodic.specs.declared.schedule.Periodic.{Periodic}
use Rattle.pareto_front.specs.declared.point.Point.{Point}
use Rattle.report.specs.ListTexts.{lines_of}
use Rattle.report.specs.StorageTexts.{point_text, points_header}
use Rattle.sd_command.specs.declared.commands.shown_points.PointTask.{PointTask}
use Rattle.sd_command.specs.declared.commands.shown_points.ShownPoint.{ShownPoint}
use Rattle.sd_command.specs.commands.Points.{IsPointSchedule}
use Rattle.sd_command.specs.inside.PointTasks.{IsShowable}
use Rattle.sd_command.proofs.command_lemmas.PointTasks.{all-taken, no-lines, schedules-next, shows-something, tasks-ready, tasks-went, text-next, whole-text}
use Rattle.sd_command.proofs.commands.shown_points.shown_points.Goals as goal

pub all-requires-after_bounds : goal.all-requires-after_bounds
all-requires-after_bounds g c κs within =
    let T : Type 0 = PointTask g.row.F.Denot in
    subst (λ (ts : List T). (k : ℕ) (d : T) → k < length ts → Unit {0} → IsShowable (slice_index_or ts k d).graph.now (g.F.Firing.net (slice_index_or ts k d).net.now) (slice_index_or ts k d).point.now) (sym c.as_mut_slice.ensures.value)
    (λ k d below entered. tasks-ready (λ (t : T). t.graph.now) (λ (t : T). g.F.Firing.net t.net.now) (λ (t : T). t.point.now) (λ (t : T). t.shown) c.args.graph.now (g.F.Firing.net c.args.net.now) c.args.points.now c.in_ok-tasks.tasks.items c.requires c.in_ok-tasks.ensures k d below)

pub loop-task-init : goal.loop-task-init
loop-task-init g c =
    let empty = sym c.in_ok-schedules.ensures.items in
    let text = c.into_vec-text.ensures ∙ c.in_ok-points_header.ensures in record {
      schedules = subst (AllZip (IsPointSchedule (g.F.Firing.net c.args.net.now)) []) empty tt;
      text = subst (λ ss. c.into_vec-text.result.items ≡ points_header (length c.args.points.now) ++ lines_of (point_text c.args.graph.now) [] ss) empty (no-lines c.args.graph.now c.args.points.now c.into_vec-text.result.items text);
    }

pub shown_by-requires : goal.shown_by-requires
shown_by-requires g c =
    let T : Type 0 = PointTask g.row.F.Denot in
    let net : Net = g.F.Firing.net c.args.net.now in
    let new : List T = c.all.new.jobs in
    let gives = c.into_iter-task-iterator.ensures.into_iter_gives in
    let went = tasks-went (λ (t : T). t.graph.now) (λ (t : T). g.F.Firing.net t.net.now) (λ (t : T). t.point.now) (λ (t : T). t.shown) c.args.graph.now net c.args.points.now c.in_ok-tasks.tasks.items c.as_mut_slice.result.now new c.in_ok-tasks.tasks.len
    (search rules) c.as_mut_slice.ensures.value c.in_ok-tasks.ensures c.all.ensures.ran in
    let turn = YieldsList-turn (YieldsList-from_vec new (gives.0 ∙ went.1) (gives.1 ∙ went.2)) c.loop-task.yielded c.loop-task.task-iterator c.loop-task.yielded_by c.next.result c.next.new.self c.in-Some.task c.in-Some.is c.next.ensures.steps in
    shows-something (λ (t : T). t.graph.now) (λ (t : T). g.F.Firing.net t.net.now) (λ (t : T). t.point.now) (λ (t : T). t.shown) c.args.graph.now net c.args.points.now new went.0 c.loop-task.yielded c.in-Some.task turn.0 turn.1

pub loop-task-preserved : goal.loop-task-preserved
loop-task-preserved g c =
    let T : Type 0 = PointTask g.row.F.Denot in
    let net : Net = g.F.Firing.net c.args.net.now in
    let new : List T = c.all.new.jobs in
    let gives = c.into_iter-task-iterator.ensures.into_iter_gives in
    let went = tasks-went (λ (t : T). t.graph.now) (λ (t : T). g.F.Firing.net t.net.now) (λ (t : T). t.point.now) (λ (t : T). t.shown) c.args.graph.now net c.args.points.now c.in_ok-tasks.tasks.items c.as_mut_slice.result.now new c.in_ok-tasks.tasks.len
    (search rules) c.as_mut_slice.ensures.value c.in_ok-tasks.ensures c.all.ensures.ran in
    let turn = YieldsList-turn (YieldsList-from_vec new (gives.0 ∙ went.1) (gives.1 ∙ went.2)) c.loop-task.yielded c.loop-task.task-iterator c.loop-task.yielded_by c.next.result c.next.new.self c.in-Some.task c.in-Some.is c.next.ensures.steps in
    let points = c.args.points.now in
    let done : List T = c.loop-task.yielded in
    let s : ShownPoint = c.in_ok-schedule.field-0 in
    let so_far = c.loop-task.invariant.schedules in
    let ok : c.in-Some.task.shown ≡ Some (Ok s) = c.shown_by.ensures ∙ ap (λ (r : Result ShownPoint NoMemory). Some r) c.in_ok-schedule.was in
    let pushed = sym c.in_ok-push.ensures.items in
    let text : c.extend_from_slice.new.self.items ≡ c.loop-task.text.items ++ s.lines = c.in_ok-extend_from_slice.ensures.items ∙ ap (λ (l : List ℕ). c.loop-task.text.items ++ l) c.as_slice.ensures in record {
      schedules = subst (λ (ss : List Periodic). AllZip (IsPointSchedule net) (take (length (done ++ c.in-Some.task ∷ [])) points) ss) pushed
          (schedules-next (λ (t : T). t.graph.now) (λ (t : T). g.F.Firing.net t.net.now) (λ (t : T). t.point.now) (λ (t : T). t.shown) c.args.graph.now net points new went.0 done c.in-Some.task turn.0 turn.1 s ok c.loop-task.schedules.items so_far);
      text = subst (λ (ss : List Periodic). c.extend_from_slice.new.self.items ≡ points_header (length points) ++ lines_of (point_text c.args.graph.now) (take (length (done ++ c.in-Some.task ∷ [])) points) ss) pushed
          (text ∙ text-next (λ (t : T). t.graph.now) (λ (t : T). g.F.Firing.net t.net.now) (λ (t : T). t.point.now) (λ (t : T). t.shown) c.args.graph.now net points new went.0 done c.in-Some.task turn.0 turn.1 s ok c.loop-task.schedules.items so_far
          (points_header (length points)) c.loop-task.text.items c.loop-task.invariant.text);
    }

pub returns : goal.returns
returns g c =
    let T : Type 0 = PointTask g.row.F.Denot in
    let net : Net = g.F.Firing.net c.args.net.now in
    let points = c.args.points.now in
    let new : List T = c.all.new.jobs in
    let gives = c.into_iter-task-iterator.ensures.into_iter_gives in
    let went = tasks-went (λ (t : T). t.graph.now) (λ (t : T). g.F.Firing.net t.net.now) (λ (t : T). t.point.now) (λ (t : T). t.shown) c.args.graph.now net points c.in_ok-tasks.tasks.items c.as_mut_slice.result.now new c.in_ok-tasks.tasks.len
    (search rules) c.as_mut_slice.ensures.value c.in_ok-tasks.ensures c.all.ensures.ran in
    let ended = YieldsList-end (YieldsList-from_vec new (gives.0 ∙ went.1) (gives.1 ∙ went.2)) c.loop-task.yielded c.loop-task.task-iterator c.loop-task.yielded_by c.next.result c.next.new.self c.in-None.is c.next.ensures.steps in
    let all : take (length c.loop-task.yielded) points ≡ points =
    all-taken (λ (t : T). t.graph.now) (λ (t : T). g.F.Firing.net t.net.now) (λ (t : T). t.point.now) (λ (t : T). t.shown) c.args.graph.now net points new went.0 (length c.loop-task.yielded) ended.1 in
    let schedules : List Periodic = c.loop-task.schedules.items in record {
      schedules = subst (λ (ps : List Point). AllZip (IsPointSchedule net) ps schedules) all c.loop-task.invariant.schedules;
      text = c.from_vec.ensures ∙ (c.loop-task.invariant.text ∙ (ap (λ (ps : List Point). points_header (length points) ++ lines_of (point_text c.args.graph.now) ps schedules) all ∙ whole-text c.args.graph.now points schedules));
    }
