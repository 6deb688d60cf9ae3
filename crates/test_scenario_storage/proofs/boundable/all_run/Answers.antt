use Rattle.std.proofs.Common.{◌≤◌, List, length, ap, arith}
use Rattle.sd_base.specs.declared.tables.ScenarioRow.{ScenarioRow}
use Rattle.sd_base.proofs.ElementsKeepPlaces.{item-at}
use Rattle.test_scenario_storage.specs.Running.{Runs}
use Rattle.test_scenario_storage.proofs.TestsHoldForAll.{holds-all, holds-more}
use Rattle.test_scenario_storage.proofs.boundable.all_run.Goals as goal

pub runs-requires-clause-rules : goal.runs-requires-clause-rules
runs-requires-clause-rules c =
    let at = item-at c.args.file.now.scenarios c.as_slice-scenario-items.result.now
    c.loop-scenario.scenario-index c.scenario-item.result c.as_slice-scenario-items.ensures c.loop-scenario-test.true c.scenario-item.is in
    (c.requires.rules.scenarios c.loop-scenario.scenario-index c.scenario-item.result at).rules

pub runs-requires-clause-kind : goal.runs-requires-clause-kind
runs-requires-clause-kind c =
    let at = item-at c.args.file.now.scenarios c.as_slice-scenario-items.result.now
    c.loop-scenario.scenario-index c.scenario-item.result c.as_slice-scenario-items.ensures c.loop-scenario-test.true c.scenario-item.is in
    (c.requires.rules.scenarios c.loop-scenario.scenario-index c.scenario-item.result at).kind

pub runs-requires-clause-timed : goal.runs-requires-clause-timed
runs-requires-clause-timed c =
    let at = item-at c.args.file.now.scenarios c.as_slice-scenario-items.result.now
    c.loop-scenario.scenario-index c.scenario-item.result c.as_slice-scenario-items.ensures c.loop-scenario-test.true c.scenario-item.is in
    (c.requires.rules.scenarios c.loop-scenario.scenario-index c.scenario-item.result at).timed

pub loop-scenario-preserved : goal.loop-scenario-preserved
loop-scenario-preserved c =
    let at = item-at c.args.file.now.scenarios c.as_slice-scenario-items.result.now
    c.loop-scenario.scenario-index c.scenario-item.result c.as_slice-scenario-items.ensures c.loop-scenario-test.true c.scenario-item.is in
    holds-more (λ (row : ScenarioRow). Runs c.args.tokens row.graph) c.args.file.now.scenarios c.loop-scenario.scenario-index c.scenario-item.result
    c.loop-scenario.invariant at
    (c.in_ok-runs.ensures c.if-not-branch.false)

pub returns : goal.returns
returns c = λ yes.
    let count = ap (λ (xs : List ScenarioRow). length xs) c.as_slice-scenario-items.ensures in
    let past : length c.as_slice-scenario-items.result.now ≤ c.loop-scenario.scenario-index = c.loop-scenario-test.false in
    holds-all (λ (row : ScenarioRow). Runs c.args.tokens row.graph) c.args.file.now.scenarios c.loop-scenario.scenario-index (omega (arith, count, past)) c.loop-scenario.invariant
