use Rattle.std.proofs.Common.{sym, ap, ◌∙◌}
use Rattle.token_matrix.specs.inside.Batches.{rows_of}
use Rattle.token_matrix.specs.inside.LaterRows.{later_row}
use Rattle.token_matrix.proofs.BatchRows.{whole_raised, part_raised, part_left}
use Rattle.token_matrix.proofs.line.Line.take_some.Goals as goal

pub returns-then-batch-tokens-clause-raised : goal.returns-then-batch-tokens-clause-raised
returns-then-batch-tokens-clause-raised c =
    whole_raised c.in-Some.batch c.pop_front.new.self.items c.args.self.now (sym c.self.view_is ∙ ap rows_of c.in-Some.ensures.items) c.args.tokens c.args.row.now c.raise.new.row
    c.in-Some.batch.some c.if-batch-tokens.true c.requires.wide (c.raise.ensures ∙ ap (later_row c.args.row.now) (c.as_slice.ensures ∙ c.as_ref.ensures))

pub returns-clause-left : goal.returns-clause-left
returns-clause-left c =
    part_left c.in-Some.batch c.pop_front.new.self.items c.args.self.now (sym c.self.view_is ∙ ap rows_of c.in-Some.ensures.items) c.args.tokens c.put_back.new.self c.if-batch-tokens.false c.in_ok-put_back-in-Some.ensures

pub returns-clause-raised : goal.returns-clause-raised
returns-clause-raised c =
    part_raised c.in-Some.batch c.pop_front.new.self.items c.args.self.now (sym c.self.view_is ∙ ap rows_of c.in-Some.ensures.items) c.args.tokens c.args.row.now c.raise.new.row
    c.requires.some c.if-batch-tokens.false c.requires.wide (c.raise.ensures ∙ ap (later_row c.args.row.now) (c.as_slice.ensures ∙ c.as_ref.ensures))
