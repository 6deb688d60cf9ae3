-- Bounds that leave others out.
use Rattle.std.specs.Prelude.{ℕ, ◌<◌, ◌⊎◌, All, Contains, List, length, slice_index_or}
use Rattle.sd_base.specs.declared.numbers.Fraction.{Fraction}
use Rattle.covers.specs.declared.bound.Bound.{Bound}
use Rattle.covers.specs.Bounds.{Covers, IsInForce}

-- the bound covers all that the other does
abbrev pub CoversAllOf : Bound → Bound → Type 0
CoversAllOf b other = (ks : List ℕ) → Covers other ks → Covers b ks

-- so it does, and it is in force
pub record Dominates (best : Fraction) (b other : Bound) : Type 0 where
  pub force : IsInForce best b
  pub all : CoversAllOf b other

-- the bound dominates the one at the place
abbrev pub DominatesAt : Fraction → List Bound → Bound → ℕ → Type 0
DominatesAt best bounds b place = (d : Bound) → Dominates best b (slice_index_or bounds place d)

-- places of bounds, all of those that were looked at but for some where the bound dominates the one that stands there
pub record AreLeft (best : Fraction) (bounds : List Bound) (b : Bound) (looked left : List ℕ) : Type 0 where
  pub below : All (λ (place : ℕ). place < length bounds) left
  pub each : All (λ (place : ℕ). Contains left place ⊎ DominatesAt best bounds b place) looked
