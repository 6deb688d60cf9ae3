use Rattle.std.proofs.Common.{length, arith}
use Rattle.cert_text.proofs.DigitsSpellValues.{digits-place}
use Rattle.cert_text.proofs.reading.digits.digits_before.Goals as goal
use Rattle.cert_text.proofs.reading.digits.digits_before.Goals.{then-byte-lt48-via-then-byte-lt48, then-byte-lt48-via-else-byte-lt48+then-byte-gt57}

pub returns-then-byte-lt48-clause-place : goal.returns-then-byte-lt48-clause-place
returns-then-byte-lt48-clause-place c = digits-place c.args.text.now c.loop-i.i (omega arith) c.loop-i.invariant (λ less digit. elim c.then-byte-lt48.branch [
  | then-byte-lt48-via-then-byte-lt48 w ↦ omega (arith, w.if-byte-lt48.true, digit.low)
  | then-byte-lt48-via-else-byte-lt48+then-byte-gt57 w ↦ omega (arith, w.if-byte-gt57.true, digit.high)
])

pub returns-clause-place : goal.returns-clause-place
returns-clause-place c = digits-place c.args.text.now (length c.args.text.now) (omega arith) (λ k less. c.loop-i.invariant k (omega arith)) (λ less. absurd (omega (arith, less)))
