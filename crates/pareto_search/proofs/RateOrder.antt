-- The order of rates.
use Rattle.std.proofs.Common.{ℕ, zero, suc, ◌*◌, ◌≤◌, ◌<◌, ◌⊎◌, arith}
use Rattle.std.proofs.lemmas.Bool.{cases_lt}
use Rattle.sd_base.specs.declared.numbers.Fraction.{Fraction}
use Rattle.storage.proofs.FrontsFromMembers.{below_less, less_on, no_less}
use Rattle.covers.specs.Bounds.{IsAtMost}
use Rattle.pareto_search.specs.inside.Knowledge.{IsAbove}
use Rattle.pareto_search.specs.inside.Turns.{IsSameRate}

pub most-same : (a : Fraction) → IsAtMost a a
most-same a = omega arith

pub most-on : (a b c : Fraction) → IsAtMost a b → IsAtMost b c → IsAtMost a c
most-on a b c one other = no_less a.num a.den b.num b.den c.num c.den b.positive one other

pub above-most : (a b : Fraction) → IsAbove a b → IsAtMost b a
above-most a b above = omega (arith, above)

-- b is above a, and c no less than b
pub above-on : (a b c : Fraction) → IsAbove b a → IsAtMost b c → IsAbove c a
above-on a b c above most = less_on a.num a.den b.num b.den c.num c.den a.positive b.positive c.positive above most

-- b is no less than a, and c above b
pub above-from : (a b c : Fraction) → IsAtMost a b → IsAbove c b → IsAbove c a
above-from a b c most above = below_less a.num a.den b.num b.den c.num c.den a.positive most above

pub above-never : (a b : Fraction) → IsAbove a b → IsAtMost a b → ⊥
above-never a b above most = omega (arith, above, most)

pub above-or : (a b : Fraction) → IsAbove a b ⊎ IsAtMost a b
above-or a b = cases_lt (b.num * a.den) (a.num * b.den)

pub same-on : (a b c : Fraction) → IsSameRate a b → IsSameRate b c → IsSameRate a c
same-on a b c one other = (most-on a b c one.0 other.0, most-on c b a other.1 one.1)

-- what is above another one is above 0
pub above-runs : (a b : Fraction) → IsAbove a b → 1 ≤ a.num
above-runs a b above = runs a.num (b.num * a.den) b.den above
  where
    runs : (n m d : ℕ) → m < n * d → 1 ≤ n
    runs zero m d less = absurd (omega arith)
    runs (suc n) m d less = omega arith
