use Rattle.std.proofs.Common.{refl}
use Rattle.cert_text.specs.Sections.{ending}
use Rattle.cert_text.specs.Spelling.{end_line}
use Rattle.cert_text.proofs.TextLines.{empty-lines, lines-some}
use Rattle.cert_text.proofs.reading.rates.end.Goals as goal

pub returns-in_err-next-clause-exact : goal.returns-in_err-next-clause-exact
returns-in_err-next-clause-exact c = absurd (lines-some c.next.new.self.rest.now c.if-not-is_empty.ensures c.in_err-next.ensures.exact.1)

pub returns-clause-exact : goal.returns-clause-exact
unfolding ending end_line
returns-clause-exact c = rw (c.in_ok-line.ensures.exact, ← c.if-not-is.ensures.exact, empty-lines c.next.new.self.rest.now c.if-not-is_empty.ensures) refl
