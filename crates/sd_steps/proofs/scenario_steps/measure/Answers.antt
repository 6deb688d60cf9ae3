use Rattle.std.proofs.Common.{◌≡◌, ◌≤◌, List, length, Some, Err, refl, sym, ap, subst, arith}
use Rattle.std.specs.Prelude.{slice_get}
use Rattle.std.proofs.lemmas.Option.{slice_get_read}
use Rattle.std.proofs.lemmas.Result.{err_from_is_err_and}
use Rattle.sd_base.specs.declared.tables.ScenarioRow.{ScenarioRow}
use Rattle.sd_base.specs.declared.tables.SharedRow.{SharedRow}
use Rattle.sd_base.specs.Scenarios.{ScenarioKeepsRules}
use Rattle.sd_steps.specs.ScenarioSteps.{measuring_one}
use Rattle.sd_steps.specs.Steps.{Does}
use Rattle.sd_steps.proofs.ScenariosAreMeasured.{kept_more, kept_all, stops}
use Rattle.sd_steps.proofs.scenario_steps.measure.Goals as goal

pub measure_one-requires : goal.measure_one-requires
measure_one-requires c =
    let items = c.as_slice-scenario-items.result.now in
    let at = slice_get_read items (length items) c.loop-scenario.scenario-index c.scenario-item.result refl c.loop-scenario-test.true c.scenario-item.is in
    let place : slice_get c.args.file.now.scenarios c.loop-scenario.scenario-index ≡ Some c.scenario-item.result = subst (λ (xs : List ScenarioRow). slice_get xs c.loop-scenario.scenario-index ≡ Some c.scenario-item.result) c.as_slice-scenario-items.ensures at in
    subst (λ (shared : List SharedRow). ScenarioKeepsRules shared c.scenario-item.result) (sym c.as_slice.ensures) (c.requires.scenarios c.loop-scenario.scenario-index c.scenario-item.result place)

pub returns-in_err-matrix : goal.returns-in_err-matrix
returns-in_err-matrix c =
    let p = err_from_is_err_and c.from_residual.result c.from_residual.ensures.1 in
    let items = c.as_slice-scenario-items.result.now in
    let at = slice_get_read items (length items) c.loop-scenario.scenario-index c.scenario-item.result refl c.loop-scenario-test.true c.scenario-item.is in
    let place : slice_get c.args.file.now.scenarios c.loop-scenario.scenario-index ≡ Some c.scenario-item.result = subst (λ (xs : List ScenarioRow). slice_get xs c.loop-scenario.scenario-index ≡ Some c.scenario-item.result) c.as_slice-scenario-items.ensures at in
    rw (p.1, p.2) (stops c.args.file.now c.loop-scenario.invariant.matrices c.loop-scenario.scenario-index c.scenario-item.result _ c.loop-scenario.invariant.so_far place (subst (λ (shared : List SharedRow). Does (measuring_one shared c.scenario-item.result) (Err c.in_err-matrix.field-0.0)) c.as_slice.ensures c.in_err-matrix.ensures))

pub loop-scenario-preserved : goal.loop-scenario-preserved
loop-scenario-preserved c =
    let items = c.as_slice-scenario-items.result.now in
    let at = slice_get_read items (length items) c.loop-scenario.scenario-index c.scenario-item.result refl c.loop-scenario-test.true c.scenario-item.is in
    let place : slice_get c.args.file.now.scenarios c.loop-scenario.scenario-index ≡ Some c.scenario-item.result = subst (λ (xs : List ScenarioRow). slice_get xs c.loop-scenario.scenario-index ≡ Some c.scenario-item.result) c.as_slice-scenario-items.ensures at in
    kept_more c.args.file.now c.loop-scenario.matrices c.put_matrix.new.matrices c.in_ok-matrix.matrix c.needed-kept.result c.len.result c.loop-scenario.scenario-index c.scenario-item.result c.loop-scenario.invariant place
    (rw c.as_slice.ensures at c.in_ok-matrix.ensures) c.len.ensures c.needed-kept.ensures.run c.in_ok-put_matrix.ensures

pub returns : goal.returns
returns c =
    let count = ap (λ (xs : List ScenarioRow). length xs) c.as_slice-scenario-items.ensures in
    let past : length c.as_slice-scenario-items.result.now ≤ c.loop-scenario.scenario-index = c.loop-scenario-test.false in
    let inside : c.loop-scenario.scenario-index ≤ length c.as_slice-scenario-items.result.now = c.loop-scenario.auto.scenario-index-end in
    kept_all c.args.file.now c.loop-scenario.matrices c.loop-scenario.scenario-index (omega arith) c.loop-scenario.invariant
