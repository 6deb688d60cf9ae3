use Rattle.std.proofs.Common.{arith}
use Rattle.std.proofs.lemmas.List.{take_rest}
use Rattle.file_text.proofs.WholeCharacters.{ascii-here, body-on}
use Rattle.file_text.proofs.characters.body_len.Goals as goal

pub loop-count-preserved-then-bytes-count-lt128 : goal.loop-count-preserved-then-bytes-count-lt128
loop-count-preserved-then-bytes-count-lt128 c =
    body-on c.args.comment c.args.bytes.now c.loop-count.count 1 c.loop-count.invariant (rw c.if-goes_on.true at c.goes_on.ensures)
    (ascii-here c.args.bytes.now c.loop-count.count c.loop-count-test.true c.if-bytes-count-lt128.true) (omega arith)

pub loop-count-preserved : goal.loop-count-preserved
loop-count-preserved c =
    body-on c.args.comment c.args.bytes.now c.loop-count.count c.wide_len-more.result c.loop-count.invariant (rw c.if-goes_on.true at c.goes_on.ensures)
    (rw take_rest at c.wide_len-more.ensures) (omega (arith, c.if-more-eq0.false))
