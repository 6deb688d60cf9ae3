use Rattle.std.proofs.Common.{◌≡◌, ◌+◌, length, sym, ap, ◌∙◌, subst, arith}
use Rattle.std.proofs.lemmas.List.{length-map}
use Rattle.sd_base.specs.declared.tables.ScenarioFile.{ScenarioFile}
use Rattle.automaton.specs.TimedGraphs.{IsRun}
use Rattle.bounded_scenarios.specs.BoundedFiles.{bounded_scenario}
use Rattle.scenario_storage.proofs.MatricesAreMeasured.{AreKeptTo, kept-all, kept-next, runs-before}
use Rattle.scenario_storage.proofs.FilesAllowSearch.{can-measure}
use Rattle.scenario_storage.proofs.rating.measure.Goals as goal

pub matrix_at-requires-clause-scenario : goal.matrix_at-requires-clause-scenario
matrix_at-requires-clause-scenario c =
    let file = c.args.plan.now.file.now in
    let ds = c.args.capacities.now.capacities in
    let many : c.len-scenario-end.result ≡ length file.scenarios =
    c.len-scenario-end.ensures ∙ (ap (λ (f : ScenarioFile). length f.scenarios) c.requires.bounded ∙ length-map file.scenarios (bounded_scenario file.shared ds)) in
    omega (arith, many, c.loop-scenario-test.true)

pub stopped_by-requires : goal.stopped_by-requires
stopped_by-requires c = (c.args.plan.now.file.now, c.args.plan.now.gammas.now, c.args.capacities.now.capacities, c.in-Err.ensures)

pub returns-in-Err : goal.returns-in-Err
returns-in-Err c =
    c.stopped_by.ensures c.args.plan.now.file.now c.args.plan.now.gammas.now c.args.capacities.now.capacities c.in-Err.ensures
    (runs-before c.args.plan.now.file.now c.args.plan.now.gammas.now c.args.capacities.now.capacities c.loop-scenario.scenario c.loop-scenario.invariant.matrices c.loop-scenario.invariant.to)

pub loop-scenario-preserved : goal.loop-scenario-preserved
loop-scenario-preserved c =
    let file = c.args.plan.now.file.now in
    let gammas = c.args.plan.now.gammas.now in
    let ds = c.args.capacities.now.capacities in
    subst (AreKeptTo file gammas ds (c.loop-scenario.scenario + 1)) (sym c.in_ok-push-in-Ok.ensures.items)
    (kept-next file gammas ds c.loop-scenario.scenario c.loop-scenario.matrices.items c.in-Ok.matrix c.needed.result c.loop-scenario.invariant c.in-Ok.ensures
    (λ run. c.needed.ensures.run (subst (λ (f : ScenarioFile). IsRun f c.loop-scenario.scenario) (sym c.requires.bounded) run)))

pub returns : goal.returns
returns c =
    let file = c.args.plan.now.file.now in
    let ds = c.args.capacities.now.capacities in
    let many : c.len-scenario-end.result ≡ length file.scenarios =
    c.len-scenario-end.ensures ∙ (ap (λ (f : ScenarioFile). length f.scenarios) c.requires.bounded ∙ length-map file.scenarios (bounded_scenario file.shared ds)) in
    kept-all file c.args.plan.now.gammas.now ds c.loop-scenario.scenario c.loop-scenario.matrices.items c.loop-scenario.invariant
    (can-measure file c.args.plan.now.limits.total c.requires.plan.bounded ds c.requires.fits) (omega (arith, many, c.loop-scenario-test.false, c.loop-scenario.auto.scenario-end))
