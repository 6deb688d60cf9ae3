use Rattle.std.proofs.Common.{◌++◌, ◌∙◌, List, Option, ℕ, replicate, ap}
use Rattle.token_matrix.proofs.FirstLines.{line_more}
use Rattle.token_matrix.proofs.making.first_line.Goals as goal

pub loop-place-preserved : goal.loop-place-preserved
loop-place-preserved c =
    line_more c.args.size c.args.first c.loop-place.place c.loop-place.line c.put.new.self c.in_ok-unit_row.field-0 c.loop-place.invariant c.in_ok-unit_row.ensures
    (c.in_ok-put.ensures ∙ ap (λ (r : List (Option ℕ)). c.loop-place.line ++ replicate 1 r) c.in_ok-new.ensures.ok)
