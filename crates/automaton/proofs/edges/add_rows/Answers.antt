use Rattle.std.proofs.Common.{◌≡◌, ℕ, ◌+◌, ◌++◌, ◌∙◌, ap, refl, List, Option, length, arith}
use Rattle.std.specs.Prelude.{slice_index_or}
use Rattle.std.proofs.lemmas.Option.{slice_get_read}
use Rattle.automaton.specs.TimedGraphs.{edges_into}
use Rattle.automaton.proofs.EdgesAddInTurn.{added-row}
use Rattle.automaton.proofs.edges.add_rows.Goals as goal

pub add_row-requires-clause-short : goal.add_row-requires-clause-short
add_row-requires-clause-short c =
    let wide : length (slice_index_or c.args.rows.now c.loop-row.row c.index-rows-row.result) ≡ length c.args.rows.now = c.requires.square.square c.loop-row.row c.index-rows-row.result c.loop-row-test.true in
    let read : length c.as_slice.result.now ≡ length (slice_index_or c.args.rows.now c.loop-row.row c.index-rows-row.result) = ap (λ (z : List (Option ℕ)). length z) (c.as_slice.ensures ∙ c.index-rows-row.is) in
    omega (arith, read, wide, c.requires.square.few)

pub loop-row-preserved : goal.loop-row-preserved
loop-row-preserved c = added-row c.args.edges.now.items c.loop-row.edges.items c.add_row.new.edges.items c.args.from c.args.to c.args.rows.now c.loop-row.row c.index-rows-row.result
    (slice_get_read c.args.rows.now (length c.args.rows.now) c.loop-row.row c.index-rows-row.result refl c.loop-row-test.true c.index-rows-row.is) c.loop-row.invariant
    (c.in_ok-add_row.ensures ∙ ap (λ (z : List (Option ℕ)). c.loop-row.edges.items ++ edges_into c.args.from (c.args.to + c.loop-row.row) z) c.as_slice.ensures)
