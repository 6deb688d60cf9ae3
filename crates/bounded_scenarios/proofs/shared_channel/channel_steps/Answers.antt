use Rattle.std.proofs.Common.{◌≤◌, ◌∙◌, List, length, map, ap, subst}
use Rattle.std.proofs.lemmas.List.{take_all}
use Rattle.sd_base.specs.declared.tables.ScenarioRow.{ScenarioRow}
use Rattle.sd_base.specs.declared.tables.SharedRow.{SharedRow}
use Rattle.sd_base.proofs.ElementsKeepPlaces.{item-at}
use Rattle.levels.specs.Frontiers.{channel_step}
use Rattle.bounded_scenarios.specs.SharedChannels.{shared_channels_from}
use Rattle.bounded_scenarios.specs.inside.MergedRates.{IsMerged}
use Rattle.bounded_scenarios.proofs.MergedChannels.{limited, name-all, steps-more}
use Rattle.bounded_scenarios.proofs.SharedSteps.{shared-steps}
use Rattle.bounded_scenarios.proofs.shared_channel.channel_steps.Goals as goal

pub merged_of-requires : goal.merged_of-requires
merged_of-requires c =
    let there = item-at c.args.file.now.shared c.as_slice-row-items.result.now c.loop-row.row-index c.row-item.result c.as_slice-row-items.ensures c.loop-row-test.true c.row-item.is in
    rw (c.as_slice.ensures) (name-all c.args.file.now c.requires c.loop-row.row-index c.row-item.result there)

pub step-requires : goal.step-requires
step-requires c =
    let there = item-at c.args.file.now.shared c.as_slice-row-items.result.now c.loop-row.row-index c.row-item.result c.as_slice-row-items.ensures c.loop-row-test.true c.row-item.is in
    limited c.args.file.now c.requires c.loop-row.row-index c.row-item.result c.in_ok-merged.merged there
    (subst (λ (l : List ScenarioRow). IsMerged l c.row-item.result c.in_ok-merged.merged) c.as_slice.ensures c.in_ok-merged.ensures)

pub loop-row-preserved : goal.loop-row-preserved
loop-row-preserved c =
    let there = item-at c.args.file.now.shared c.as_slice-row-items.result.now c.loop-row.row-index c.row-item.result c.as_slice-row-items.ensures c.loop-row-test.true c.row-item.is in
    let merged = subst (λ (l : List ScenarioRow). IsMerged l c.row-item.result c.in_ok-merged.merged) c.as_slice.ensures c.in_ok-merged.ensures in
    steps-more c.args.file.now.scenarios c.args.file.now.shared c.loop-row.row-index c.row-item.result c.in_ok-merged.merged c.step.result c.loop-row.steps
    c.push.new.self there merged c.step.ensures.step c.in_ok-push.ensures.ok c.loop-row.invariant

pub returns : goal.returns
returns c =
    let past : length c.args.file.now.shared ≤ c.loop-row.row-index = subst (λ (l : List SharedRow). length l ≤ c.loop-row.row-index) c.as_slice-row-items.ensures c.loop-row-test.false in
    let whole = take_all c.loop-row.row-index c.args.file.now.shared past in
    record {
      known = c.loop-row.invariant ∙ ap (λ (l : List SharedRow). map channel_step (shared_channels_from c.args.file.now.scenarios 0 l)) whole;
      some_size = (shared-steps c.args.file.now c.requires).size;
    }
