use Rattle.std.proofs.Common.{◌++◌, List, [], Option, Some, ℕ, ap, sym, ◌∙◌, arith}
use Rattle.std.proofs.lemmas.Option.{slice_get-get_or}
use Rattle.std.proofs.lemmas.List.{get_or_default}
use Rattle.token_matrix.proofs.LeftTokens.{left_more, left_all}
use Rattle.token_matrix.proofs.making.left_rows.Goals as goal

pub loop-row-preserved : goal.loop-row-preserved
loop-row-preserved c =
    left_more c.args.shared.now c.args.graph.now c.requires.shares c.args.lines.now c.requires.held c.loop-row.row-index c.channel_named.result c.row-item.result c.loop-row.rows c.spell.new.rows c.loop-row.invariant
    (slice_get-get_or c.args.shared.now c.loop-row.row-index c.row-item.result c.loop-row-test.true ∙ ap Some (sym c.row-item.is)) c.channel_named.ensures
    (c.in_ok-spell.ensures ∙ ap (λ (r : List (List (Option ℕ))). c.loop-row.rows ++ r) (c.index-lines-channel_named.is ∙ get_or_default c.args.lines.now c.channel_named.result c.index-lines-channel_named.result [] (omega (arith, c.channel_named.ensures.0, c.requires.long))))

pub returns : goal.returns
returns c = left_all c.args.shared.now c.args.graph.now c.requires.shares c.args.lines.now c.requires.held c.loop-row.row-index c.loop-row.rows (omega (arith, c.loop-row-test.false)) c.loop-row.invariant
