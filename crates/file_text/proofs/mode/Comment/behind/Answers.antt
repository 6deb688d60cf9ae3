use Rattle.std.proofs.Common.{sym, arith}
use Rattle.file_text.proofs.WholeCharacters.{no-last, one-last, two-last}
use Rattle.file_text.proofs.mode.Comment.behind.Goals as goal

pub returns-then-read-n-ne45 : goal.returns-then-read-n-ne45
returns-then-read-n-ne45 c = sym (no-last c.args.self c.args.read.now (omega (arith, c.if-n-eq0.false)) c.if-read-n-ne45.true)

pub returns-then-read-n-eq45 : goal.returns-then-read-n-eq45
returns-then-read-n-eq45 c = sym (two-last c.args.self c.args.read.now (omega (arith, c.if-n-eq0.false, c.if-n-eq1.false)) c.if-read-n-ne45.false c.if-read-n-eq45.true)

pub returns-else-read-n-eq45 : goal.returns-else-read-n-eq45
returns-else-read-n-eq45 c = sym (one-last c.args.self c.args.read.now (omega (arith, c.if-n-eq0.false, c.if-n-eq1.false)) c.if-read-n-ne45.false c.if-read-n-eq45.false)
