use Rattle.std.proofs.Common.{arith}
use Rattle.sd_base.proofs.LeastMultiplesDivide.{gcd_pos, lcm_from_gcd, lcm_above, lcm_fits}
use Rattle.sd_base.proofs.numbers.lcm_within.Goals as goal

pub nonzero_div-part : goal.nonzero_div-part
nonzero_div-part c = gcd_pos c.args.a c.args.b c.gcd.result (omega arith) c.gcd.ensures

pub returns-then-part-limit : goal.returns-then-part-limit
returns-then-part-limit c =
    lcm_above c.args.a c.args.b c.gcd.result c.args.limit (omega arith) (omega arith) c.gcd.ensures c.if-part-limit.true

pub returns : goal.returns
returns c = (
  lcm_from_gcd c.args.a c.args.b c.gcd.result (omega arith) (omega arith) c.gcd.ensures,
  lcm_fits c.args.b _ c.args.limit (omega arith) c.if-part-limit.false,
)
