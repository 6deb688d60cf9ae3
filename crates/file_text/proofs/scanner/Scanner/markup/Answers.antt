use Rattle.std.proofs.Common.{sym, ◌∙◌, refl}
use Rattle.file_text.specs.inside.Seen.{around_of}
use Rattle.file_text.proofs.ReaderMatchesMachine.{inside, closes_inside}
use Rattle.file_text.proofs.scanner.Scanner.markup.Goals as goal

pub returns-in-Slash : goal.returns-in-Slash
returns-in-Slash c =
    let s = c.args.self.now in
    let is = inside s.frames.items s.root s.frames.len s.frames.ok.0 (sym c.if-not-is_empty.true ∙ c.is_empty.ensures) in
    rw (c.in-Slash.is, closes_inside (around_of s) is, c.goes-in-Slash.ensures.after) (c.goes-in-Slash.ensures.answer, refl)
