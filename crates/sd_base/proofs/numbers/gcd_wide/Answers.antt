use Rattle.std.proofs.lemmas.Nat.Gcd.{IsGcd-from_mod, IsGcd-from_zero}
use Rattle.std.proofs.Common.{arith}
use Rattle.sd_base.proofs.numbers.gcd_wide.Goals as goal

pub euclid-preserved : goal.euclid-preserved
euclid-preserved c = λ g h. c.euclid.invariant g (IsGcd-from_mod c.euclid.high c.euclid.low g h)

pub returns : goal.returns
returns c = c.euclid.invariant c.euclid.high (IsGcd-from_zero c.euclid.high c.euclid.low (omega arith))
