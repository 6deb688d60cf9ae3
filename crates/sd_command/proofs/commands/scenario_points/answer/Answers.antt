use Rattle.std.proofs.Common.{refl}
use Rattle.std.proofs.lemmas.Result.{IfOk-weaker, err_from_is_err_and}
use Rattle.sd_command.proofs.command_lemmas.CommandsFollowSteps.{taking_stops, taken_on}
use Rattle.sd_command.proofs.commands.scenario_points.answer.Goals as goal

pub returns-in_err-file-clause-answers : goal.returns-in_err-file-clause-answers
returns-in_err-file-clause-answers g c =
    let p = err_from_is_err_and c.from_residual.result c.from_residual.ensures.1 in
    rw (p.1, p.2) (record {
      goes = taking_stops _ _ _ refl _ _ _ c.in_err-file.ensures.takes;
      stays = c.in_err-file.ensures.stays;
      grows = c.in_err-file.ensures.grows;
    })

pub returns-clause-answers : goal.returns-clause-answers
returns-clause-answers g c = record {
  goes = taken_on _ _ c.in_ok-file.file _ _ _ _ _ c.in_ok-file.ensures.takes (c.points_in.ensures.goes _);
  stays = c.in_ok-file.ensures.stays;
  grows = c.in_ok-file.ensures.grows;
}

pub returns-clause-entered : goal.returns-clause-entered
returns-clause-entered g c = IfOk-weaker c.points_in.result _ _ (λ answer is. (c.in_ok-file.file, c.in_ok-file.ensures.takes.0, is)) c.points_in.ensures.entered
