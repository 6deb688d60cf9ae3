use Rattle.std.proofs.Common.{◌*◌, ◌≤◌, length, sym, subst}
use Rattle.sd_base.specs.declared.limits.TheConstants.{NODES}
use Rattle.sd_base.specs.declared.tables.ScenarioFile.{ScenarioFile}
use Rattle.sd_base.specs.Scenarios.{LeadsOn, shared_count}
use Rattle.automaton.specs.TimedGraphs.{AreSized}
use Rattle.scenario_storage.proofs.MatricesAreMeasured.{are-sized, too-many}
use Rattle.scenario_storage.proofs.FilesAllowSearch.{can-measure}
use Rattle.scenario_storage.proofs.rating.timed_graph.Goals as goal

pub product-requires-clause-sized : goal.product-requires-clause-sized
product-requires-clause-sized c =
    let file = c.args.plan.now.file.now in
    let ds = c.args.capacities.now.capacities in
    let leads = (can-measure file c.args.plan.now.limits.total c.requires.plan.bounded ds c.requires.fits).leads_on in
    subst (λ (f : ScenarioFile). AreSized (shared_count f.shared) c.args.matrices.now f.states) (sym c.requires.bounded) (are-sized file ds c.args.matrices.now leads c.requires.live)

pub product-requires-clause-nodes : goal.product-requires-clause-nodes
product-requires-clause-nodes c =
    subst (λ (f : ScenarioFile). length f.states * shared_count f.shared ≤ NODES) (sym c.requires.bounded)
    (can-measure c.args.plan.now.file.now c.args.plan.now.limits.total c.requires.plan.bounded c.args.capacities.now.capacities c.requires.fits).few_nodes

pub product-requires-clause-leads_on : goal.product-requires-clause-leads_on
product-requires-clause-leads_on c =
    subst LeadsOn (sym c.requires.bounded)
    (can-measure c.args.plan.now.file.now c.args.plan.now.limits.total c.requires.plan.bounded c.args.capacities.now.capacities c.requires.fits).leads_on

pub returns-in-Err-Limit-clause-refused : goal.returns-in-Err-Limit-clause-refused
returns-in-Err-Limit-clause-refused c =
    too-many c.args.plan.now.file.now c.args.capacities.now.capacities c.args.matrices.now c.requires.live c.args.bounded.now c.requires.bounded (c.in-Err-Limit.ensures.limit (cc))
