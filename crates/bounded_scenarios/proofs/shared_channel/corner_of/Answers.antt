use Rattle.std.proofs.Common.{◌+◌, ◌*◌, List, ap, subst, arith}
use Rattle.std.proofs.lemmas.Option.{slice_get_within}
use Rattle.sd_base.specs.declared.limits.TheConstants.{RATE, TOKENS}
use Rattle.sd_base.specs.declared.tables.ScenarioRow.{ScenarioRow}
use Rattle.sd_base.proofs.ElementsKeepPlaces.{item-at}
use Rattle.bounded_scenarios.specs.inside.MergedRates.{IsMerged}
use Rattle.bounded_scenarios.proofs.MergedChannels.{corner-more, few-shared, limited, name-all, room-few}
use Rattle.bounded_scenarios.proofs.shared_channel.corner_of.Goals as goal

pub merged_of-requires : goal.merged_of-requires
merged_of-requires c =
    let there = item-at c.args.file.now.shared c.as_slice-row-items.result.now c.loop-row.row-index c.row-item.result c.as_slice-row-items.ensures c.loop-row-test.true c.row-item.is in
    rw (c.as_slice.ensures) (name-all c.args.file.now c.requires c.loop-row.row-index c.row-item.result there)

pub corner-entry-requires : goal.corner-entry-requires
corner-entry-requires c =
    let there = item-at c.args.file.now.shared c.as_slice-row-items.result.now c.loop-row.row-index c.row-item.result c.as_slice-row-items.ensures c.loop-row-test.true c.row-item.is in
    limited c.args.file.now c.requires c.loop-row.row-index c.row-item.result c.in_ok-merged.merged there
    (subst (λ (l : List ScenarioRow). IsMerged l c.row-item.result c.in_ok-merged.merged) c.as_slice.ensures c.in_ok-merged.ensures)

pub overflow_add-total : goal.overflow_add-total
overflow_add-total c =
    let there = item-at c.args.file.now.shared c.as_slice-row-items.result.now c.loop-row.row-index c.row-item.result c.as_slice-row-items.ensures c.loop-row-test.true c.row-item.is in
    let below = slice_get_within c.args.file.now.shared c.loop-row.row-index c.row-item.result there in
    let few = few-shared c.args.file.now c.requires in
    let room = room-few c.corner-entry.result (TOKENS + 2 * RATE) c.corner-entry.ensures.small in
    omega (arith, below, few, room, c.unwrap_or-total.ensures, c.loop-row.invariant.small)

pub loop-row-preserved : goal.loop-row-preserved
loop-row-preserved c =
    let there = item-at c.args.file.now.shared c.as_slice-row-items.result.now c.loop-row.row-index c.row-item.result c.as_slice-row-items.ensures c.loop-row-test.true c.row-item.is in
    let merged = subst (λ (l : List ScenarioRow). IsMerged l c.row-item.result c.in_ok-merged.merged) c.as_slice.ensures c.in_ok-merged.ensures in
    let room = room-few c.corner-entry.result (TOKENS + 2 * RATE) c.corner-entry.ensures.small in
    corner-more c.args.file.now.scenarios c.args.file.now.shared c.loop-row.row-index c.row-item.result c.in_ok-merged.merged c.corner-entry.result c.loop-row.capacities
    c.push.new.self c.loop-row.total (c.loop-row.total + c.unwrap_or-total.result) there merged c.corner-entry.ensures.corner room c.in_ok-push.ensures.ok
    (ap (λ n. c.loop-row.total + n) c.unwrap_or-total.ensures) c.loop-row.invariant
