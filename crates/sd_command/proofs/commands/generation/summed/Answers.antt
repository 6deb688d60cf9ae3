use Rattle.std.proofs.Common.{arith}
use Rattle.std.proofs.lemmas.Result.{IfOk-weaker, err_from_is_err_and}
use Rattle.sd_steps.specs.Balancings.{balancing}
use Rattle.sd_command.proofs.command_lemmas.CommandsFollowSteps.{step_stops, goes_on}
use Rattle.sd_command.proofs.commands.generation.summed.Goals as goal

pub returns-in_err-gamma-clause-goes : goal.returns-in_err-gamma-clause-goes
returns-in_err-gamma-clause-goes g c = λ faults.
    let p = err_from_is_err_and c.from_residual.result c.from_residual.ensures.1 in
    rw (p.1, p.2) (step_stops (balancing c.args.graph) _ _ (omega arith) _ faults c.in_err-gamma.ensures)

pub returns-clause-goes : goal.returns-clause-goes
returns-clause-goes g c = λ faults. goes_on (balancing c.args.graph) _ c.in_ok-gamma.gamma _ _ faults faults c.in_ok-gamma.ensures (c.summary_of_graph.ensures.goes faults)

pub returns-clause-entered : goal.returns-clause-entered
returns-clause-entered g c = IfOk-weaker c.summary_of_graph.result _ _ (λ answer is. (c.in_ok-gamma.gamma, c.in_ok-gamma.ensures, is)) c.summary_of_graph.ensures.entered
