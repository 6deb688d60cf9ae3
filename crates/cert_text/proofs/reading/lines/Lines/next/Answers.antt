use Rattle.std.proofs.Common.{refl}
use Rattle.cert_text.proofs.TextLines.{first-line, empty-lines}
use Rattle.cert_text.proofs.reading.lines.Lines.next.Goals as goal

pub returns-clause-exact : goal.returns-clause-exact
returns-clause-exact c =
    let n = c.first_line.result in
    let found = first-line c.args.self.now.rest.now n c.first_line.ensures.some c.first_line.ensures.within c.first_line.ensures.before c.first_line.ensures.closed in
    rw (c.split_at.ensures.front, c.split_at.ensures.back) found

pub returns-then-is_empty-clause-exact : goal.returns-then-is_empty-clause-exact
returns-then-is_empty-clause-exact c = (refl, empty-lines c.args.self.now.rest.now c.if-is_empty.ensures, empty-lines c.args.self.now.rest.now c.if-is_empty.ensures)
