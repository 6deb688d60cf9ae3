use Rattle.std.proofs.Common.{refl}
use Rattle.std.proofs.lemmas.Result.{err_from_is_err_and}
use Rattle.sd_steps.specs.ScenarioSteps.{timing}
use Rattle.sd_command.proofs.command_lemmas.CommandsFollowSteps.{step_stops, goes_on}
use Rattle.sd_command.proofs.commands.worst_rate.worst_of.Goals as goal

pub returns-in_err-graph : goal.returns-in_err-graph
returns-in_err-graph c = λ faults.
    let p = err_from_is_err_and c.from_residual.result c.from_residual.ensures.1 in
    rw (p.1, p.2) (step_stops (timing c.args.file.now) _ 0 refl _ faults c.in_err-graph.ensures.does)

pub returns : goal.returns
returns c = λ faults. goes_on (timing c.args.file.now) _ c.in_ok-graph.graph _ 0 faults faults c.in_ok-graph.ensures.does (c.tell.ensures faults)
