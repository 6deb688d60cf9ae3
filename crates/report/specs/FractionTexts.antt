-- Fractions, as lines show them.
use Rattle.std.specs.Prelude.{ℕ, zero, suc, ◌/◌, ◌%◌, ◌&&◌, ◌==◌, List, ◌++◌, if◌then◌else◌, codes}
use Rattle.std.specs.Fmt.{decimal}

-- the greatest number up to n that divides both
unfoldable pub divisor_within : ℕ → ℕ → ℕ → ℕ
divisor_within a b zero = 1
divisor_within a b (suc n) = if (a % suc n == 0) && (b % suc n == 0) then suc n else divisor_within a b n

unfoldable pub fraction_text : ℕ → ℕ → List ℕ
fraction_text num den = decimal num ++ (codes "/" ++ decimal den)

-- the fraction n/d in lowest terms
unfoldable pub lowest_text : ℕ → ℕ → List ℕ
lowest_text n d = fraction_text (n / divisor_within n d d) (d / divisor_within n d d)
