-- The order in which distributions are evaluated: by storage, and then lexicographically.
use Rattle.std.specs.Prelude.{ℕ, Option, List}
use Rattle.std.specs.declared.cmp.Ordering.{Ordering}
use Rattle.std.specs.Ordering.{nat_cmp, on, then_cmp}
use Rattle.std.specs.Option.{option_cmp}
use Rattle.std.specs.Cmp.{IsTotalOrder, nat_cmp_total, on_total, then_total}
use Rattle.std.specs.Cmp.Lexicographic.{slice_cmp, lists_total, options_total}

-- the lexicographic order of capacities, in which none comes before each
abbrev pub capacities_cmp : List (Option ℕ) → List (Option ℕ) → Ordering
capacities_cmp = slice_cmp (option_cmp nat_cmp)

-- the order by a total, and then by capacities
abbrev pub waiting_cmp : {W : Type 0} → (W → ℕ) → (W → List (Option ℕ)) → W → W → Ordering
waiting_cmp total capacities = then_cmp (on total nat_cmp) (on capacities capacities_cmp)

-- any two compare
pub waiting_total : {W : Type 0} (total : W → ℕ) (capacities : W → List (Option ℕ)) → IsTotalOrder (waiting_cmp total capacities)
waiting_total total capacities = then_total (on_total total nat_cmp_total) (on_total capacities (lists_total (options_total nat_cmp_total)))
