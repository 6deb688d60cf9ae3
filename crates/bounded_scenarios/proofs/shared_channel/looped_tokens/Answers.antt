use Rattle.std.proofs.Common.{◌≡◌, ◌∙◌, true, List, sym, ap, arith}
use Rattle.sd_base.specs.declared.tables.ScenarioRow.{ScenarioRow}
use Rattle.sd_base.proofs.ElementsKeepPlaces.{item-at}
use Rattle.bounded_scenarios.specs.SharedChannels.{channels_named, is_looped}
use Rattle.bounded_scenarios.proofs.StorageCountsTokens.{looped-few}
use Rattle.bounded_scenarios.proofs.MergedChannels.{few-tokens, name-all}
use Rattle.bounded_scenarios.proofs.ScanStepsHold.{looped-row}
use Rattle.bounded_scenarios.proofs.shared_channel.looped_tokens.Goals as goal

pub is_looped-requires : goal.is_looped-requires
is_looped-requires c =
    let there = item-at c.args.file.now.shared c.as_slice-row-items.result.now c.loop-row.row-index c.row-item.result c.as_slice-row-items.ensures c.loop-row-test.true c.row-item.is in
    rw (c.as_slice.ensures) (name-all c.args.file.now c.requires c.loop-row.row-index c.row-item.result there)

pub overflow_add-tokens : goal.overflow_add-tokens
overflow_add-tokens c =
    let there = item-at c.args.file.now.shared c.as_slice-row-items.result.now c.loop-row.row-index c.row-item.result c.as_slice-row-items.ensures c.loop-row-test.true c.row-item.is in
    let looped : is_looped (channels_named c.args.file.now.scenarios c.row-item.result.name) ≡ true =
    ap (λ (l : List ScenarioRow). is_looped (channels_named l c.row-item.result.name)) (sym c.as_slice.ensures) ∙ (sym c.is_looped.ensures ∙ c.if-is_looped.true) in
    let here = looped-row c.args.file.now.shared c.args.file.now.scenarios c.loop-row.row-index c.row-item.result there looped in
    let all = looped-few c.args.file.now.scenarios c.args.file.now.shared in
    omega (arith, here, c.loop-row.invariant, all, few-tokens c.args.file.now c.requires)
