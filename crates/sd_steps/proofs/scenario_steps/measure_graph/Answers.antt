use Rattle.std.proofs.Common.{◌∙◌, ℕ, List, false, subst, sym}
use Rattle.std.proofs.lemmas.Result.{err_from_is_err_and}
use Rattle.sd_base.specs.Net.{Net}
use Rattle.sd_base.specs.FileNet.{net_of}
use Rattle.report.specs.LinkTexts.{IsNamed}
use Rattle.sd_base.specs.declared.tables.GraphFile.{GraphFile}
use Rattle.sd_base.specs.declared.tables.SharedRow.{SharedRow}
use Rattle.sd_steps.specs.Courses.{Step, through}
use Rattle.sd_steps.specs.Balancings.{balancing}
use Rattle.sd_steps.specs.Nets.{IsFed, feeding}
use Rattle.sd_steps.specs.ScenarioSteps.{Entries, making_matrix}
use Rattle.sd_steps.specs.Steps.{Does}
use Rattle.sd_steps.proofs.NetsStandOverGraphs.{net-over}
use Rattle.sd_steps.proofs.StepsCompose.{through_stops, through_on}
use Rattle.sd_steps.proofs.scenario_steps.measure_graph.Goals as goal

abbrev fed_on : List SharedRow → GraphFile → List ℕ → Unit {0} → Step Entries
fed_on shared graph gamma fed = making_matrix shared graph gamma

abbrev balanced_on : List SharedRow → GraphFile → List ℕ → Step Entries
balanced_on shared graph gamma = through (feeding graph (net_of graph gamma false)) (fed_on shared graph gamma)

pub returns-in_err-gamma : goal.returns-in_err-gamma
returns-in_err-gamma c =
    let p = err_from_is_err_and c.from_residual.result c.from_residual.ensures.1 in
    rw (p.1, p.2) (through_stops (balancing c.args.graph.now) (balanced_on c.args.shared.now c.args.graph.now) _ c.in_err-gamma.ensures)

pub feed-requires-clause-named : goal.feed-requires-clause-named
feed-requires-clause-named c = subst (λ (net : Net). IsNamed c.args.graph.now net) (sym c.in_ok-net.ensures) (net-over c.args.graph.now c.as_slice.result.now false)

pub make_matrix-requires-clause-fed : goal.make_matrix-requires-clause-fed
make_matrix-requires-clause-fed c =
    subst (λ (v : List ℕ). IsFed (net_of c.args.graph.now v false)) (c.as_slice.ensures ∙ sym c.as_slice-2.ensures) (subst IsFed c.in_ok-net.ensures c.in_ok-feed.ensures)

pub returns : goal.returns
returns c =
    let fed = subst (λ (v : List ℕ). IsFed (net_of c.args.graph.now v false)) c.as_slice.ensures (subst IsFed c.in_ok-net.ensures c.in_ok-feed.ensures) in
    let made = subst (λ (v : List ℕ). Does (making_matrix c.args.shared.now c.args.graph.now v) c.make_matrix.result) c.as_slice-2.ensures c.make_matrix.ensures in
    through_on (balancing c.args.graph.now) (balanced_on c.args.shared.now c.args.graph.now) c.in_ok-gamma.gamma c.make_matrix.result c.in_ok-gamma.ensures
    (through_on (feeding c.args.graph.now (net_of c.args.graph.now c.in_ok-gamma.gamma false)) (fed_on c.args.shared.now c.args.graph.now c.in_ok-gamma.gamma) tt c.make_matrix.result fed made)
