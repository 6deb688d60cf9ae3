use Rattle.std.proofs.Common.{sym, ◌∙◌}
use Rattle.file_text.specs.inside.Seen.{around_of}
use Rattle.file_text.proofs.ReaderMatchesMachine.{inside, inside_open}
use Rattle.file_text.proofs.scanner.Scanner.is_closed.Goals as goal

pub returns-else-is_empty : goal.returns-else-is_empty
returns-else-is_empty c =
    let s = c.args.self.now in
    let is = inside s.frames.items s.root s.frames.len s.frames.ok.0 (sym c.if-is_empty.false ∙ c.is_empty.ensures) in
    c.if-is_empty.false ∙ sym (inside_open (around_of s) is)
