use Rattle.std.proofs.Math.Nat.{mul-div_cancel'}
use Rattle.std.proofs.Common.{sym, arith}
use Rattle.sd_base.proofs.LeastMultiplesDivide.{gcd_pos, quotient_pos, quotients, reduced_same}
use Rattle.std.proofs.lemmas.Nat.Gcd.{IsGcd-swap}
use Rattle.sd_base.proofs.numbers.Fraction.new.Goals as goal

pub nonzero_div-result : goal.nonzero_div-result
nonzero_div-result c = gcd_pos c.args.d c.args.n c.gcd-common.result (omega arith) (IsGcd-swap _ _ _ c.gcd-common.ensures)

pub nonzero_div-result-2 : goal.nonzero_div-result-2
nonzero_div-result-2 c = gcd_pos c.args.d c.args.n c.gcd-common.result (omega arith) (IsGcd-swap _ _ _ c.gcd-common.ensures)

pub invariant_of-result : goal.invariant_of-result
invariant_of-result c = record {
  positive = quotient_pos c.args.d c.gcd-common.result (omega arith) c.gcd-common.ensures.1;
  lowest = quotients c.args.n c.args.d c.gcd-common.result (gcd_pos c.args.d c.args.n c.gcd-common.result (omega arith) (IsGcd-swap _ _ _ c.gcd-common.ensures)) c.gcd-common.ensures;
}

pub returns : goal.returns
returns c = record {
  same = reduced_same c.args.n c.args.d c.gcd-common.result c.gcd-common.ensures.0 c.gcd-common.ensures.1;
  common = (c.gcd-common.result, sym (mul-div_cancel' c.gcd-common.result c.gcd-common.ensures.0), sym (mul-div_cancel' c.gcd-common.result c.gcd-common.ensures.1));
}
