use Rattle.std.proofs.Common.{◌∙◌, arith, rules}
use Rattle.sd_base.proofs.CappedDigits.{capped-more}
use Rattle.graph_reader.proofs.NumberDigits.{capped-all}
use Rattle.graph_reader.proofs.numbers.value.Goals as goal

pub loop-digit-preserved : goal.loop-digit-preserved
loop-digit-preserved c = record {
  few = omega arith;
  same = capped-more 1000000000000000 c.args.digits.now c.loop-digit.digit-index c.loop-digit.n _ c.loop-digit-test.true (search rules) ∙ c.loop-digit.invariant.same;
}

pub returns : goal.returns
returns c = capped-all 1000000000000000 c.args.digits.now c.loop-digit.digit-index c.loop-digit.n c.loop-digit-test.false c.loop-digit.invariant.few c.loop-digit.invariant.same
