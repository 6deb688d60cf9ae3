use Rattle.std.proofs.Common.{sym, ◌∙◌, refl, arith}
use Rattle.file_text.proofs.ReaderMatchesMachine.{opens_deep, opens_here}
use Rattle.file_text.proofs.scanner.Scanner.open.Goals as goal

pub returns-then-len-ge-MOST_OPEN : goal.returns-then-len-ge-MOST_OPEN
returns-then-len-ge-MOST_OPEN c =
    let s = c.args.self.now in
    rw (opens_deep s.frames.items s.root c.args.b s.frames.len s.frames.ok.0 (omega arith)) refl

pub returns-else-len-ge-MOST_OPEN : goal.returns-else-len-ge-MOST_OPEN
returns-else-len-ge-MOST_OPEN c =
    let s = c.args.self.now in
    rw (opens_here s.frames.items s.root c.args.b s.frames.len s.frames.ok.0 (omega arith) (sym c.if-is_closed.false ∙ c.is_closed.ensures)) c.begin_tag.ensures
