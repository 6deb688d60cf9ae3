use Rattle.std.proofs.Common.{arith, refl}
use Rattle.std.proofs.lemmas.Result.{IfOk-weaker, err_from_is_err_and}
use Rattle.sd_steps.specs.Askings.{asking}
use Rattle.sd_command.proofs.command_lemmas.CommandsFollowSteps.{step_stops, goes_on}
use Rattle.sd_command.proofs.requests.answer_of.Goals as goal

pub returns-in_err-request-clause-answers : goal.returns-in_err-request-clause-answers
returns-in_err-request-clause-answers g c =
    let p = err_from_is_err_and c.from_residual.result c.from_residual.ensures.1 in
    rw (p.1, p.2) (record {
      goes = step_stops (asking c.args.words.now) _ _ (omega arith) _ _ c.in_err-request.ensures.does;
      stays = refl;
      grows = omega arith;
    })

pub returns-clause-answers : goal.returns-clause-answers
returns-clause-answers g c = record {
  goes = goes_on (asking c.args.words.now) _ _ _ _ _ _ c.in_ok-request.ensures.does c.command_answer.ensures.answers.goes;
  stays = c.command_answer.ensures.answers.stays;
  grows = c.command_answer.ensures.answers.grows;
}

pub returns-clause-entered : goal.returns-clause-entered
returns-clause-entered g c = IfOk-weaker c.command_answer.result _ _ (λ answer is. (c.in_ok-request.request, c.in_ok-request.ensures.does, is)) c.command_answer.ensures.entered
