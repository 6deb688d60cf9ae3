use Rattle.std.proofs.Common.{refl}
use Rattle.cert_text.proofs.DigitsSpellValues.{lengths-decide, digits-decide, digits-more, digits-end}
use Rattle.cert_text.proofs.reading.buffers.is_less.Goals as goal

pub returns-then-a-b : goal.returns-then-a-b
returns-then-a-b c = lengths-decide c.args.a.now c.args.b.now c.requires.a c.requires.b c.if-a-b.true

pub loop-i-init : goal.loop-i-init
loop-i-init c = refl

pub loop-i-preserved : goal.loop-i-preserved
loop-i-preserved c = digits-more c.args.a.now c.args.b.now c.loop-i.i c.if-a-b.false c.loop-i-test.true c.loop-i.invariant c.if-a-i.false

pub returns : goal.returns
returns c = digits-end c.args.a.now c.args.b.now c.loop-i.i c.if-a-b.false c.loop-i-test.false c.loop-i.invariant

pub returns-then-a-i : goal.returns-then-a-i
returns-then-a-i c = digits-decide c.args.a.now c.args.b.now c.loop-i.i c.requires.a c.requires.b c.if-a-b.false c.loop-i-test.true c.loop-i.invariant c.if-a-i.true
