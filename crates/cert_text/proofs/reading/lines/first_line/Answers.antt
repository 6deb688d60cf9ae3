use Rattle.std.proofs.Common.{arith}
use Rattle.cert_text.proofs.reading.lines.first_line.Goals as goal

pub returns-then-byte-eq10-clause-before : goal.returns-then-byte-eq10-clause-before
returns-then-byte-eq10-clause-before c = λ k less. c.loop-i.invariant k (omega arith)

pub returns-clause-before : goal.returns-clause-before
returns-clause-before c = λ k less. c.loop-i.invariant k (omega arith)
