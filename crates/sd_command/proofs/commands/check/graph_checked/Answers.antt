use Rattle.std.proofs.Common.{ℕ, true, List, refl, subst}
use Rattle.std.proofs.lemmas.Result.{err_from_is_err_and}
use Rattle.cert_checker.specs.Certificates.{IsCertificateClaim, IsCertificateFault}
use Rattle.cert_checker.specs.Verdicts.{IsVerdict}
use Rattle.sd_steps.specs.Balancings.{balancing}
use Rattle.sd_steps.specs.Readings.{reading_graph}
use Rattle.sd_command.proofs.command_lemmas.VerdictsAreTold.{verdict_goes}
use Rattle.sd_command.proofs.command_lemmas.CommandsFollowSteps.{step_stops, goes_on}
use Rattle.sd_command.proofs.commands.check.graph_checked.Goals as goal

pub returns-in_err-graph : goal.returns-in_err-graph
returns-in_err-graph c = λ faults.
    let p = err_from_is_err_and c.from_residual.result c.from_residual.ensures.1 in
    rw (p.1, p.2) (step_stops (reading_graph c.args.bytes.now true) _ 0 refl _ faults c.in_err-graph.ensures.does)

pub returns-in_err-gamma : goal.returns-in_err-gamma
returns-in_err-gamma c = λ faults.
    let p = err_from_is_err_and c.from_residual-in_err-gamma.result c.from_residual-in_err-gamma.ensures.1 in
    rw (p.1, p.2) (goes_on (reading_graph c.args.bytes.now true) _ c.in_ok-graph.graph _ 0 faults faults c.in_ok-graph.ensures.does
    (step_stops (balancing c.in_ok-graph.graph) _ 0 refl _ faults c.in_err-gamma.ensures))

pub returns : goal.returns
returns c = λ faults.
    goes_on (reading_graph c.args.bytes.now true) _ c.in_ok-graph.graph _ 0 faults faults c.in_ok-graph.ensures.does
    (goes_on (balancing c.in_ok-graph.graph) _ c.in_ok-gamma.gamma _ 0 faults faults c.in_ok-gamma.ensures
    (verdict_goes (IsCertificateFault c.in_ok-graph.graph c.in_ok-gamma.gamma c.args.version c.args.certificate.now) (IsCertificateClaim c.in_ok-graph.graph c.in_ok-gamma.gamma c.args.certificate.now)
    c.in_ok-verdict.verdict c.judged.result faults
    (subst (λ (v : List ℕ). IsVerdict (IsCertificateFault c.in_ok-graph.graph v c.args.version c.args.certificate.now) (IsCertificateClaim c.in_ok-graph.graph v c.args.certificate.now) c.in_ok-verdict.verdict) c.as_slice.ensures (c.in_ok-verdict.ensures.exact c.requires.lines))
    c.judged.ensures))
