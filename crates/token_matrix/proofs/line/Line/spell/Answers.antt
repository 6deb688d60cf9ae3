use Rattle.std.proofs.Common.{◌++◌, ◌<◌, length, List, Option, ℕ, take, replicate, ap, sym, ◌∙◌, append_assoc, arith}
use Rattle.token_matrix.specs.inside.Batches.{rows_of}
use Rattle.token_matrix.proofs.BatchRows.{rows_of-more}
use Rattle.token_matrix.proofs.line.Line.spell.Goals as goal

pub loop-place-preserved : goal.loop-place-preserved
loop-place-preserved c =
    let below : c.loop-place.place < length c.self.inside.batches.items = omega (arith, c.loop-place-test.true, c.len-place-end.ensures, c.self.inside.batches.ok.0) in
    c.in_ok-spell.ensures ∙ ap (λ (r : List (List (Option ℕ))). r ++ replicate c.index.result.now.tokens c.index.result.now.row.value) c.loop-place.invariant
    ∙ append_assoc c.args.rows.now (rows_of (take c.loop-place.place c.self.inside.batches.items)) (replicate c.index.result.now.tokens c.index.result.now.row.value)
    ∙ ap (λ (r : List (List (Option ℕ))). c.args.rows.now ++ r) (sym (rows_of-more c.self.inside.batches.items c.loop-place.place c.index.result.now below c.index.ensures))
