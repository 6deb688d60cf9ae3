use Rattle.std.proofs.Common.{arith}
use Rattle.std.proofs.lemmas.Result.{IfOk-weaker, err_from_is_err_and}
use Rattle.sd_command.proofs.command_lemmas.CommandsFollowSteps.{taking_stops, taken_on}
use Rattle.sd_command.proofs.commands.trade_off.answer.Goals as goal

pub returns-in_err-graph-clause-answers : goal.returns-in_err-graph-clause-answers
returns-in_err-graph-clause-answers g c =
    let p = err_from_is_err_and c.from_residual.result c.from_residual.ensures.1 in
    rw (p.1, p.2) (record {
      goes = taking_stops _ _ _ (omega arith) _ _ _ c.in_err-graph.ensures.takes;
      stays = c.in_err-graph.ensures.stays;
      grows = c.in_err-graph.ensures.grows;
    })

pub returns-clause-answers : goal.returns-clause-answers
returns-clause-answers g c = record {
  goes = taken_on _ _ c.in_ok-graph.graph _ _ _ _ _ c.in_ok-graph.ensures.takes (c.trade_off.ensures.goes _);
  stays = c.in_ok-graph.ensures.stays;
  grows = c.in_ok-graph.ensures.grows;
}

pub returns-clause-entered : goal.returns-clause-entered
returns-clause-entered g c = IfOk-weaker c.trade_off.result _ _ (λ answer is. (c.in_ok-graph.graph, c.in_ok-graph.ensures.takes.0, is)) c.trade_off.ensures.entered
