use Rattle.std.proofs.Common.{◌≡◌, ◌+◌, ◌<◌, length, map, sum, take, ◌∙◌, ap, sym, arith}
use Rattle.std.specs.Prelude.{slice_index}
use Rattle.std.proofs.lemmas.List.{get_or-map, length-map}
use Rattle.std.proofs.lemmas.List.Sums.{sum_by_more}
use Rattle.need_loops.proofs.shown.starts_in.Goals as goal

pub loop-row-preserved : goal.loop-row-preserved
loop-row-preserved g c =
    let place : c.loop-row.row-index < length c.args.starts.now = c.loop-row-test.true in
    let there : c.loop-row.row-index < length (map length c.args.starts.now) = omega (arith, length-map c.args.starts.now length) in
    let more : sum (take (c.loop-row.row-index + 1) (map length c.args.starts.now)) ≡ sum (take c.loop-row.row-index (map length c.args.starts.now)) + slice_index (map length c.args.starts.now) c.loop-row.row-index =
    sum_by_more (λ x. x) (map length c.args.starts.now) c.loop-row.row-index 0 there in
    let read : slice_index (map length c.args.starts.now) c.loop-row.row-index ≡ c.len.result =
    get_or-map length c.args.starts.now c.loop-row.row-index c.row-item.result 0 place ∙ (sym (ap length c.row-item.is) ∙ sym c.len.ensures) in
    record { sum = omega (arith, c.loop-row.invariant.sum); small = omega (arith, c.loop-row.invariant.small, c.len.type_inv) }
