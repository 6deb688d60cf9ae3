use Rattle.std.specs.Global.{Vec}
use Rattle.std.proofs.Common.{◌≡◌, ℕ, List, arith, refl, subst}
use Rattle.std.proofs.lemmas.Result.{err_from_is_err_and}
use Rattle.sd_base.specs.Net.{Net}
use Rattle.sd_steps.specs.Nets.{testing_incident, completing}
use Rattle.pareto_front.specs.declared.point.Point.{Point}
use Rattle.explore.proofs.IncidentNetsExplorable.{incident-explorable}
use Rattle.pareto_search.specs.TradeOffs.{IsTradeOff}
use Rattle.sd_command.proofs.command_lemmas.CommandsFollowSteps.{step_stops, goes_on}
use Rattle.sd_command.proofs.command_lemmas.AnalysesEndCommands.{few_from}
use Rattle.sd_command.proofs.command_lemmas.SummariesDecideGenerate.{summary_stops, summary_lacks, summary_answers}
use Rattle.report.specs.SummaryTexts.{summary_lines}
use Rattle.sd_command.proofs.commands.generation.summary_of.Goals as goal

pub returns-in_err-test_incident-clause-goes : goal.returns-in_err-test_incident-clause-goes
returns-in_err-test_incident-clause-goes g c = λ faults.
    let p = err_from_is_err_and c.from_residual.result c.from_residual.ensures.1 in
    rw (p.1, p.2) (step_stops (testing_incident c.args.made.now.graph (g.F.Firing.net c.args.net.now)) _ _ (omega arith) _ faults c.in_err-test_incident.ensures)

pub returns-in_err-complete-clause-goes : goal.returns-in_err-complete-clause-goes
returns-in_err-complete-clause-goes g c = λ faults.
    let p = err_from_is_err_and c.from_residual-in_err-complete.result c.from_residual-in_err-complete.ensures.1 in
    rw (p.1, p.2) (goes_on (testing_incident c.args.made.now.graph (g.F.Firing.net c.args.net.now)) _ tt _ _ faults faults c.in_ok-test_incident.ensures
    (step_stops (completing c.args.made.now.graph (g.F.Firing.net c.args.net.now)) _ _ (omega arith) _ faults c.in_err-complete.ensures))

pub points_within-requires-clause-explorable : goal.points_within-requires-clause-explorable
points_within-requires-clause-explorable g c = λ κs outlive. incident-explorable (g.F.Firing.net c.args.net.now) c.requires.plain c.requires.connected c.in_ok-test_incident.ensures c.requires.few

pub returns-in_err-points-clause-goes : goal.returns-in_err-points-clause-goes
returns-in_err-points-clause-goes g c = λ faults.
    let net : Net = g.F.Firing.net c.args.net.now in
    let p = err_from_is_err_and c.from_residual-in_err-points.result c.from_residual-in_err-points.ensures.1 in
    rw (p.1, p.2) (goes_on (testing_incident c.args.made.now.graph net) _ tt _ _ faults faults c.in_ok-test_incident.ensures
    (goes_on (completing c.args.made.now.graph net) _ tt _ _ faults faults c.in_ok-complete.ensures
    (summary_stops c.args.made.now.seed c.args.made.now.graph c.args.made.now.gamma net c.args.limits _ faults (λ (v : Vec Point). IsTradeOff net c.args.limits v.items) (few_from net c.args.limits _ _ c.in_err-points.ensures.most) _ c.in_err-points.ensures.does)))

pub returns-in_err-summary_text-clause-goes : goal.returns-in_err-summary_text-clause-goes
returns-in_err-summary_text-clause-goes g c = λ faults.
    let net : Net = g.F.Firing.net c.args.net.now in
    let p = err_from_is_err_and c.from_residual-in_err-summary_text.result c.from_residual-in_err-summary_text.ensures.1 in
    rw (p.1, p.2) (goes_on (testing_incident c.args.made.now.graph net) _ tt _ _ faults faults c.in_ok-test_incident.ensures
    (goes_on (completing c.args.made.now.graph net) _ tt _ _ faults faults c.in_ok-complete.ensures
    (summary_lacks c.args.made.now.seed c.args.made.now.graph c.args.made.now.gamma net c.args.limits _ faults (few_from net c.args.limits _ _ c.in_ok-points.ensures.most))))

pub returns-clause-goes : goal.returns-clause-goes
returns-clause-goes g c = λ faults.
    let net : Net = g.F.Firing.net c.args.net.now in
    goes_on (testing_incident c.args.made.now.graph net) _ tt _ _ faults faults c.in_ok-test_incident.ensures
    (goes_on (completing c.args.made.now.graph net) _ tt _ _ faults faults c.in_ok-complete.ensures
    (summary_answers c.args.made.now.seed c.args.made.now.graph c.args.made.now.gamma net c.args.limits _ faults _ c.in_ok-points.points.items c.in_ok-points.ensures.does
    (subst (λ (ps : List Point). c.in_ok-summary_text.field-0 ≡ summary_lines c.args.made.now.seed c.args.made.now.graph c.args.made.now.gamma ps) c.as_slice-2.ensures.value
    (subst (λ (v : List ℕ). c.in_ok-summary_text.field-0 ≡ summary_lines c.args.made.now.seed c.args.made.now.graph v c.as_slice-2.result.now) c.as_slice.ensures c.in_ok-summary_text.ensures)) refl
    (c.in_ok-points.ensures.live _ (omega (arith, c.in_ok-points.ensures.rises)))
    (omega (arith, c.in_ok-points.ensures.least))))

pub returns-clause-entered : goal.returns-clause-entered
returns-clause-entered g c = c.in_ok-points.ensures.entered _ (omega (arith, c.in_ok-points.ensures.rises))
