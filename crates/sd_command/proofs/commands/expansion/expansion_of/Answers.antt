use Rattle.std.proofs.Common.{Some, refl, ap}
use Rattle.std.proofs.lemmas.Result.{err_from_is_err_and}
use Rattle.sd_steps.specs.declared.answer.Put.{Put}
use Rattle.sd_command.specs.commands.Expansions.{expanding}
use Rattle.sd_command.proofs.command_lemmas.CommandsFollowSteps.{step_stops, goes_on}
use Rattle.sd_command.proofs.command_lemmas.AnalysesEndCommands.{print_answers}
use Rattle.sd_command.proofs.commands.expansion.expansion_of.Goals as goal

pub returns-in_err-big : goal.returns-in_err-big
returns-in_err-big g c = λ faults.
    let p = err_from_is_err_and c.from_residual.result c.from_residual.ensures.1 in
    rw (p.1, p.2) (step_stops (expanding (g.F.Firing.net c.args.net.now) c.args.graph.now) _ 0 refl _ faults c.in_err-big.ensures.does)

pub returns : goal.returns
returns g c = λ faults.
    goes_on (expanding (g.F.Firing.net c.args.net.now) c.args.graph.now) _ c.in_ok-big.big _ 0 faults faults c.in_ok-big.ensures.does
    (print_answers _ _ _ faults c.in_ok-expand_text.ensures (ap (λ (put : Put). Some put) c.in_ok-graph_put.ensures))
