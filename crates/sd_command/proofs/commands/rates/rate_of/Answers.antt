use Rattle.std.proofs.Common.{arith}
use Rattle.std.proofs.lemmas.Result.{err_from_is_err_and}
use Rattle.sd_steps.specs.Nets.{testing}
use Rattle.sd_command.proofs.command_lemmas.CommandsFollowSteps.{step_stops, goes_on}
use Rattle.sd_command.proofs.command_lemmas.AnalysesEndCommands.{run_stops, run_answers}
use Rattle.sd_command.proofs.commands.rates.rate_of.Goals as goal

pub returns-in_err-test-clause-goes : goal.returns-in_err-test-clause-goes
returns-in_err-test-clause-goes g c = λ faults.
    let p = err_from_is_err_and c.from_residual-in_err-test.result c.from_residual-in_err-test.ensures.1 in
    rw (p.1, p.2) (step_stops (testing c.args.graph.now (g.F.Firing.net c.args.net.now)) _ _ (omega arith) _ faults c.in_err-test.ensures.does)

pub returns-in_err-table-clause-goes : goal.returns-in_err-table-clause-goes
returns-in_err-table-clause-goes g c = λ faults.
    let net = g.F.Firing.net c.args.net.now in
    let p = err_from_is_err_and c.from_residual-in_err-table.result c.from_residual-in_err-table.ensures.1 in
    rw (p.1, p.2) (goes_on (testing c.args.graph.now net) _ tt _ _ faults faults c.in_ok-test.ensures.does
    (run_stops c.args.graph.now net c.args.distribution.now.capacities c.args.wanted.now _ (omega arith) faults _ c.in_err-table.ensures.does))

pub returns-clause-goes : goal.returns-clause-goes
returns-clause-goes g c = λ faults.
    let net = g.F.Firing.net c.args.net.now in
    goes_on (testing c.args.graph.now net) _ tt _ _ faults faults c.in_ok-test.ensures.does
    (run_answers c.args.graph.now net c.args.distribution.now.capacities c.args.wanted.now _ (omega arith) faults _ c.shown.ensures)
