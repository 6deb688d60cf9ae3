use Rattle.std.proofs.Common.{sym, ◌∙◌}
use Rattle.std.proofs.lemmas.List.{take_rest}
use Rattle.file_text.proofs.WholeCharacters.{ascii-here, run-more}
use Rattle.file_text.proofs.characters.run_len.Goals as goal

pub loop-count-preserved-then-bytes-count-lt128 : goal.loop-count-preserved-then-bytes-count-lt128
loop-count-preserved-then-bytes-count-lt128 c =
    run-more c.args.run c.args.bytes.now c.loop-count.count 1 c.loop-count.invariant (sym c.takes.ensures ∙ c.if-takes.true) (ascii-here c.args.bytes.now c.loop-count.count c.loop-count-test.true c.if-bytes-count-lt128.true)

pub loop-count-preserved : goal.loop-count-preserved
loop-count-preserved c =
    run-more c.args.run c.args.bytes.now c.loop-count.count c.wide_len-more.result c.loop-count.invariant (sym c.takes.ensures ∙ c.if-takes.true) (rw take_rest at c.wide_len-more.ensures)
