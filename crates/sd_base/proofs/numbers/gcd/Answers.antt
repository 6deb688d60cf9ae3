use Rattle.std.proofs.Common.{ℕ, subst}
use Rattle.std.specs.Int.{IsGcd}
use Rattle.sd_base.proofs.LeastMultiplesDivide.{gcd_below}
use Rattle.sd_base.proofs.numbers.gcd.Goals as goal

pub returns : goal.returns
returns c =
    subst (λ (a : ℕ). IsGcd a c.args.b c.gcd_wide.result) c.from.ensures
    (subst (λ (b : ℕ). IsGcd c.from.result b c.gcd_wide.result) c.from-2.ensures c.gcd_wide.ensures)

pub overflow_cast-result : goal.overflow_cast-result
overflow_cast-result c = record { fits = gcd_below c.args.a c.args.b c.gcd_wide.result 18446744073709551616 (returns c) c.ranges.a.fits c.ranges.b.fits }
