use Rattle.std.proofs.Common.{ℕ}
use Rattle.std.specs.Int.{IsGcd}
use Rattle.sd_base.proofs.numbers.gcd_wide.Given as goal

abbrev pub invariant-euclid : goal.invariant-euclid
invariant-euclid l = (g : ℕ) → IsGcd l.high l.low g → IsGcd l.a l.b g

abbrev pub decreases-euclid : goal.decreases-euclid
decreases-euclid l = l.low
