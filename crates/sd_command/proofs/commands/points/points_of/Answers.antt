use Rattle.std.proofs.Common.{arith}
use Rattle.std.proofs.lemmas.Result.{err_from_is_err_and}
use Rattle.sd_steps.specs.Nets.{testing_incident, completing}
use Rattle.explore.proofs.IncidentNetsExplorable.{incident-explorable}
use Rattle.sd_command.proofs.command_lemmas.CommandsFollowSteps.{step_stops, goes_on}
use Rattle.sd_command.proofs.commands.points.points_of.Goals as goal

pub returns-in_err-test_incident-clause-goes : goal.returns-in_err-test_incident-clause-goes
returns-in_err-test_incident-clause-goes g c = λ faults.
    let p = err_from_is_err_and c.from_residual.result c.from_residual.ensures.1 in
    rw (p.1, p.2) (step_stops (testing_incident c.args.graph.now (g.F.Firing.net c.args.net.now)) _ _ (omega arith) _ faults c.in_err-test_incident.ensures)

pub returns-in_err-complete-clause-goes : goal.returns-in_err-complete-clause-goes
returns-in_err-complete-clause-goes g c = λ faults.
    let p = err_from_is_err_and c.from_residual-in_err-complete.result c.from_residual-in_err-complete.ensures.1 in
    rw (p.1, p.2) (goes_on (testing_incident c.args.graph.now (g.F.Firing.net c.args.net.now)) _ tt _ _ faults faults c.in_ok-test_incident.ensures
    (step_stops (completing c.args.graph.now (g.F.Firing.net c.args.net.now)) _ _ (omega arith) _ faults c.in_err-complete.ensures))

pub without_certificate-requires-clause-explorable : goal.without_certificate-requires-clause-explorable
without_certificate-requires-clause-explorable g c = λ κs outlive.
    incident-explorable (g.F.Firing.net c.args.net.now) c.requires.plain c.requires.connected c.in_ok-test_incident.ensures c.requires.few

pub with_certificate-requires-clause-explorable : goal.with_certificate-requires-clause-explorable
with_certificate-requires-clause-explorable g c = λ κs outlive. incident-explorable (g.F.Firing.net c.args.net.now) c.requires.plain c.requires.connected c.in_ok-test_incident.ensures c.requires.few

pub returns-in-None-clause-goes : goal.returns-in-None-clause-goes
returns-in-None-clause-goes g c = λ faults.
    goes_on (testing_incident c.args.graph.now (g.F.Firing.net c.args.net.now)) _ tt _ _ faults faults c.in_ok-test_incident.ensures
    (goes_on (completing c.args.graph.now (g.F.Firing.net c.args.net.now)) _ tt _ _ faults faults c.in_ok-complete.ensures (c.without_certificate.ensures.goes faults))

pub returns-clause-goes : goal.returns-clause-goes
returns-clause-goes g c = λ faults.
    goes_on (testing_incident c.args.graph.now (g.F.Firing.net c.args.net.now)) _ tt _ _ faults faults c.in_ok-test_incident.ensures
    (goes_on (completing c.args.graph.now (g.F.Firing.net c.args.net.now)) _ tt _ _ faults faults c.in_ok-complete.ensures (c.with_certificate.ensures.goes faults))
