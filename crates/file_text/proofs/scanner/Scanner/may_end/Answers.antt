use Rattle.std.proofs.Common.{sym, ◌∙◌}
use Rattle.file_text.specs.inside.Seen.{around_of}
use Rattle.file_text.proofs.ReaderMatchesMachine.{inside, inside_untold}
use Rattle.file_text.proofs.scanner.Scanner.may_end.Goals as goal

pub returns-in-Nothing-Between-clause-open : goal.returns-in-Nothing-Between-clause-open
returns-in-Nothing-Between-clause-open c = λ open_yet.
    let s = c.args.self.now in
    let is = inside s.frames.items s.root s.frames.len s.frames.ok.0 (sym open_yet ∙ c.is_empty.ensures) in
    rw (c.in-Nothing-Between.is-0, c.in-Nothing-Between.is-1) (inside_untold (around_of s) is)
