use Rattle.std.proofs.Common.{refl}
use Rattle.std.proofs.lemmas.Result.{err_from_is_err_and}
use Rattle.cert_checker.specs.ScenarioCertificates.{IsWorstClaim, IsWorstFault}
use Rattle.sd_steps.specs.ScenarioSteps.{reading_scenarios, timing}
use Rattle.sd_command.proofs.command_lemmas.VerdictsAreTold.{verdict_goes}
use Rattle.sd_command.proofs.command_lemmas.CommandsFollowSteps.{step_stops, goes_on}
use Rattle.sd_command.proofs.commands.check.scenario_checked.Goals as goal

pub returns-in_err-file : goal.returns-in_err-file
returns-in_err-file c = λ faults.
    let p = err_from_is_err_and c.from_residual.result c.from_residual.ensures.1 in
    rw (p.1, p.2) (step_stops (reading_scenarios c.args.bytes.now) _ 0 refl _ faults c.in_err-file.ensures.does)

pub returns-in_err-graph : goal.returns-in_err-graph
returns-in_err-graph c = λ faults.
    let p = err_from_is_err_and c.from_residual-in_err-graph.result c.from_residual-in_err-graph.ensures.1 in
    rw (p.1, p.2) (goes_on (reading_scenarios c.args.bytes.now) _ c.in_ok-file.file _ 0 faults faults c.in_ok-file.ensures.does
    (step_stops (timing c.in_ok-file.file) _ 0 refl _ faults c.in_err-graph.ensures.does))

pub returns : goal.returns
returns c = λ faults.
    goes_on (reading_scenarios c.args.bytes.now) _ c.in_ok-file.file _ 0 faults faults c.in_ok-file.ensures.does
    (goes_on (timing c.in_ok-file.file) _ c.in_ok-graph.graph _ 0 faults faults c.in_ok-graph.ensures.does
    (verdict_goes (IsWorstFault c.in_ok-graph.graph c.args.version c.args.certificate.now) (IsWorstClaim c.in_ok-graph.graph c.args.certificate.now)
    c.in_ok-verdict.verdict c.judged.result faults c.in_ok-verdict.ensures c.judged.ensures))
