use Rattle.std.proofs.Common.{◌++◌, List, Option, ℕ, replicate, ap, ◌∙◌}
use Rattle.token_matrix.specs.inside.Batches.{rows_of}
use Rattle.token_matrix.proofs.BatchRows.{rows_of-push}
use Rattle.token_matrix.proofs.line.Line.put.Goals as goal

pub returns-in_ok-push_back : goal.returns-in_ok-push_back
returns-in_ok-push_back c =
    ap rows_of c.in_ok-push_back.ensures.items ∙ rows_of-push c.self.inside.batches.items _ ∙ ap (λ (r : List (List (Option ℕ))). r ++ replicate c.args.tokens c.args.row.value) c.self.view_is
