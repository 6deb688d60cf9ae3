use Rattle.std.proofs.Common.{◌∙◌, ◌*◌, ◌≤◌, ℕ, List, Err, false, ap, sum, subst, sym}
use Rattle.std.proofs.lemmas.Result.{err_from_is_err_and}
use Rattle.sd_base.specs.declared.limits.Quantity.TheVariants.{Stamps}
use Rattle.sd_base.specs.declared.limits.TheConstants.{ROUND}
use Rattle.sd_base.specs.declared.tables.GraphFile.{GraphFile}
use Rattle.sd_base.specs.FileNet.{net_of}
use Rattle.sd_base.specs.Net.{Net}
use Rattle.report.specs.LinkTexts.{IsNamed}
use Rattle.sd_steps.specs.Courses.{Step, through}
use Rattle.sd_steps.specs.Balancings.{balancing}
use Rattle.sd_steps.specs.Nets.{IsFed, completing, feeding}
use Rattle.sd_steps.specs.ScenarioBounds.{fitting}
use Rattle.sd_steps.specs.Steps.{Does}
use Rattle.sd_steps.proofs.NetsStandOverGraphs.{net-over}
use Rattle.sd_steps.proofs.StepsCompose.{through_on, through_stops}
use Rattle.sd_steps.proofs.scenario_bounds.bound_graph.Goals as goal

abbrev few_on : GraphFile → List ℕ → Unit {0} → Step (Unit {0})
few_on graph gamma few = completing graph (net_of graph gamma false)

abbrev fed_on : ℕ → GraphFile → List ℕ → Unit {0} → Step (Unit {0})
fed_on tokens graph gamma fed = through (fitting Stamps (sum gamma * tokens)) (few_on graph gamma)

abbrev balanced_on : ℕ → GraphFile → List ℕ → Step (Unit {0})
balanced_on tokens graph gamma = through (feeding graph (net_of graph gamma false)) (fed_on tokens graph gamma)

pub returns-in_err-gamma : goal.returns-in_err-gamma
returns-in_err-gamma c =
    let p = err_from_is_err_and c.from_residual.result c.from_residual.ensures.1 in
    rw (p.1, p.2) (through_stops (balancing c.args.graph.now) (balanced_on c.args.tokens c.args.graph.now) _ c.in_err-gamma.ensures)

pub feed-requires-clause-named : goal.feed-requires-clause-named
feed-requires-clause-named c = subst (λ (net : Net). IsNamed c.args.graph.now net) (sym c.in_ok-net.ensures) (net-over c.args.graph.now c.as_slice.result.now false)

pub firings_of-requires : goal.firings_of-requires
firings_of-requires c = subst (λ (v : List ℕ). sum v ≤ ROUND) (sym c.as_slice-2.ensures) c.in_ok-gamma.ensures.fits

pub returns-in_err-fit : goal.returns-in_err-fit
returns-in_err-fit c =
    let graph = c.args.graph.now in
    let gamma = c.in_ok-gamma.gamma in
    let fed = subst (λ (v : List ℕ). IsFed (net_of graph v false)) c.as_slice.ensures (subst IsFed c.in_ok-net.ensures c.in_ok-feed.ensures) in
    let number = ap (λ (n : ℕ). n * c.args.tokens) (c.firings_of.ensures ∙ ap sum c.as_slice-2.ensures) in
    let p = err_from_is_err_and c.from_residual-in_err-fit.result c.from_residual-in_err-fit.ensures.1 in
    rw (p.1, p.2) (through_on (balancing graph) (balanced_on c.args.tokens graph) gamma (Err c.in_err-fit.field-0.0) c.in_ok-gamma.ensures
    (through_on (feeding graph (net_of graph gamma false)) (fed_on c.args.tokens graph gamma) tt (Err c.in_err-fit.field-0.0) fed
    (through_stops (fitting Stamps (sum gamma * c.args.tokens)) (few_on graph gamma) _ (subst (λ (n : ℕ). Does (fitting Stamps n) (Err c.in_err-fit.field-0.0)) number c.in_err-fit.ensures))))

pub complete-requires : goal.complete-requires
complete-requires c = subst (λ (net : Net). IsNamed c.args.graph.now net) (sym c.in_ok-net.ensures) (net-over c.args.graph.now c.as_slice.result.now false)

pub returns : goal.returns
returns c =
    let graph = c.args.graph.now in
    let gamma = c.in_ok-gamma.gamma in
    let net = c.in_ok-net.ensures ∙ ap (λ (v : List ℕ). net_of graph v false) c.as_slice.ensures in
    let fed = subst IsFed net c.in_ok-feed.ensures in
    let number = ap (λ (n : ℕ). n * c.args.tokens) (c.firings_of.ensures ∙ ap sum c.as_slice-2.ensures) in
    through_on (balancing graph) (balanced_on c.args.tokens graph) gamma c.complete.result c.in_ok-gamma.ensures
    (through_on (feeding graph (net_of graph gamma false)) (fed_on c.args.tokens graph gamma) tt c.complete.result fed
    (through_on (fitting Stamps (sum gamma * c.args.tokens)) (few_on graph gamma) tt c.complete.result (subst (λ (n : ℕ). (fitting Stamps n).passes tt) number c.in_ok-fit.ensures)
    (subst (λ (x : Net). Does (completing graph x) c.complete.result) net c.complete.ensures)))
