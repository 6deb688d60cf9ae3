use Rattle.std.proofs.Common.{◌≡◌, ◌<◌, ◌∙◌, [], length, arith}
use Rattle.std.specs.Prelude.{slice_index_or}
use Rattle.std.proofs.lemmas.List.{get_or_default}
use Rattle.need_loops.proofs.by_rounds.starts_by.Goals as goal

pub count_by-count-requires : goal.count_by-count-requires
count_by-count-requires c =
    let there : c.loop-row.row-index < length c.args.starts.now = omega (arith, c.loop-row-test.true) in
    let row : c.as_slice.result.now ≡ slice_index_or c.args.starts.now c.loop-row.row-index [] = c.as_slice.ensures ∙ (c.row-item.is ∙ get_or_default c.args.starts.now c.loop-row.row-index c.row-item.result [] there) in
    rw row (record { ascend = c.requires.ascend c.loop-row.row-index there })
