use Rattle.std.proofs.Common.{sym, ◌∙◌, subst, Some}
use Rattle.file_text.specs.inside.Machine.{Step, Takes}
use Rattle.file_text.specs.inside.Seen.{around_of, state_of}
use Rattle.file_text.proofs.ReaderMatchesMachine.{inside, between_inside}
use Rattle.file_text.proofs.scanner.Scanner.between.Goals as goal

pub returns-else-is_empty : goal.returns-else-is_empty
returns-else-is_empty c =
    let s = c.args.self.now in
    let is = inside s.frames.items s.root s.frames.len s.frames.ok.0 (sym c.if-is_empty.false ∙ c.is_empty.ensures) in
    subst (λ (x : Step). Takes (Some s.due) x c.character.result (state_of c.character.new.self))
    (between_inside (around_of s) c.args.class is c.in_default.not-White c.in_default.not-Less) c.character.ensures
