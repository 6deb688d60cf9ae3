use Rattle.std.proofs.Common.{◌≤◌, List, length, ap, arith}
use Rattle.std.proofs.lemmas.Result.{err_from_is_err_and}
use Rattle.sd_base.specs.declared.tables.ScenarioRow.{ScenarioRow}
use Rattle.sd_base.proofs.ElementsKeepPlaces.{item-at}
use Rattle.sd_steps.specs.ScenarioBounds.{ArePassed, bounding_one}
use Rattle.sd_steps.proofs.ScenarioWalks.{first_stops, passed_all, passed_more}
use Rattle.sd_steps.proofs.scenario_bounds.bound_all.Goals as goal

pub bound_one-requires-clause-rules : goal.bound_one-requires-clause-rules
bound_one-requires-clause-rules c =
    let items = c.as_slice-scenario-items.result.now in
    let at = item-at c.args.file.now.scenarios items c.loop-scenario.scenario-index c.scenario-item.result c.as_slice-scenario-items.ensures c.loop-scenario-test.true c.scenario-item.is in
    (c.args.file.now.shared, c.requires.rules.scenarios c.loop-scenario.scenario-index c.scenario-item.result at)

pub returns-in_err-bound_one : goal.returns-in_err-bound_one
returns-in_err-bound_one c =
    let items = c.as_slice-scenario-items.result.now in
    let at = item-at c.args.file.now.scenarios items c.loop-scenario.scenario-index c.scenario-item.result c.as_slice-scenario-items.ensures c.loop-scenario-test.true c.scenario-item.is in
    let p = err_from_is_err_and c.from_residual.result c.from_residual.ensures.1 in
    rw (p.1, p.2) (first_stops (bounding_one c.args.tokens) c.args.file.now (λ (done : Unit {0}). ArePassed c.args.file.now c.args.tokens)
    c.loop-scenario.scenario-index c.scenario-item.result _
    (λ s r before here. (tt, c.loop-scenario.invariant s r before here)) at c.in_err-bound_one.ensures)

pub loop-scenario-preserved : goal.loop-scenario-preserved
loop-scenario-preserved c =
    let items = c.as_slice-scenario-items.result.now in
    let at = item-at c.args.file.now.scenarios items c.loop-scenario.scenario-index c.scenario-item.result c.as_slice-scenario-items.ensures c.loop-scenario-test.true c.scenario-item.is in
    passed_more c.args.file.now c.args.tokens c.loop-scenario.scenario-index c.scenario-item.result c.loop-scenario.invariant at c.in_ok-bound_one.ensures

pub returns : goal.returns
returns c =
    let count = ap (λ (xs : List ScenarioRow). length xs) c.as_slice-scenario-items.ensures in
    let past : length c.as_slice-scenario-items.result.now ≤ c.loop-scenario.scenario-index = c.loop-scenario-test.false in
    let inside : c.loop-scenario.scenario-index ≤ length c.as_slice-scenario-items.result.now = c.loop-scenario.auto.scenario-index-end in
    passed_all c.args.file.now c.args.tokens c.loop-scenario.scenario-index (omega arith) c.loop-scenario.invariant
