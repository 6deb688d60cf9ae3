use Rattle.std.proofs.Common.{◌≡◌, ◌+◌, List, length, sym, ap, subst, arith}
use Rattle.sd_base.specs.declared.tables.ScenarioRow.{ScenarioRow}
use Rattle.sd_base.proofs.ElementsKeepPlaces.{item-at}
use Rattle.scenario_storage.proofs.ScenariosHaveRounds.{AreRoundsTo, rounds-all, rounds-more}
use Rattle.scenario_storage.proofs.search.gammas_of.Goals as goal

pub gamma_of-requires-clause-rules : goal.gamma_of-requires-clause-rules
gamma_of-requires-clause-rules c =
    (c.requires.rules.scenarios c.loop-scenario.scenario-index c.scenario-item.result (item-at c.args.file.now.scenarios c.as_slice-scenario-items.result.now c.loop-scenario.scenario-index c.scenario-item.result c.as_slice-scenario-items.ensures c.loop-scenario-test.true c.scenario-item.is)).rules

pub gamma_of-requires-clause-round : goal.gamma_of-requires-clause-round
gamma_of-requires-clause-round c =
    c.requires.rounds c.loop-scenario.scenario-index c.scenario-item.result
    (item-at c.args.file.now.scenarios c.as_slice-scenario-items.result.now c.loop-scenario.scenario-index c.scenario-item.result c.as_slice-scenario-items.ensures c.loop-scenario-test.true c.scenario-item.is)

pub loop-scenario-preserved : goal.loop-scenario-preserved
loop-scenario-preserved c =
    subst (AreRoundsTo c.args.file.now (c.loop-scenario.scenario-index + 1)) (sym c.in_ok-push.ensures.ok)
    (rounds-more c.args.file.now c.loop-scenario.scenario-index c.loop-scenario.gammas c.scenario-item.result c.in_ok-gamma_of.field-0 c.loop-scenario.invariant
    (item-at c.args.file.now.scenarios c.as_slice-scenario-items.result.now c.loop-scenario.scenario-index c.scenario-item.result c.as_slice-scenario-items.ensures c.loop-scenario-test.true c.scenario-item.is)
    c.in_ok-gamma_of.ensures)

pub returns : goal.returns
returns c =
    let same : length c.as_slice-scenario-items.result.now ≡ length c.args.file.now.scenarios = ap (λ (xs : List ScenarioRow). length xs) c.as_slice-scenario-items.ensures in
    rounds-all c.args.file.now c.loop-scenario.scenario-index c.loop-scenario.gammas (omega (arith, same, c.loop-scenario-test.false))
    (omega (arith, same, c.loop-scenario.auto.scenario-index-end)) c.loop-scenario.invariant
