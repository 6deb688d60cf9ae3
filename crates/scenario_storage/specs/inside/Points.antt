-- Points that rise in storage and rate.
use Rattle.std.specs.Prelude.{◌≡◌, ℕ, ◌-◌, ◌*◌, ◌≤◌, ◌<◌, ◌⊎◌, Contains, List, [], ◌∷◌, ◌++◌, length, slice_index_or}
use Rattle.std.specs.List.{AllPairs}
use Rattle.sd_base.specs.declared.numbers.Fraction.{Fraction}
use Rattle.scenario_storage.specs.declared.point.ScenarioPoint.{ScenarioPoint}

-- the first rate is less than the second
abbrev pub IsSlower : Fraction → Fraction → Type 0
IsSlower a b = a.num * b.den < b.num * a.den

-- the first point has less storage and less rate
abbrev pub IsBelow : ScenarioPoint → ScenarioPoint → Type 0
IsBelow p q = (p.total < q.total) × IsSlower p.rate q.rate

-- each is below all later ones
abbrev pub AreRising : List ScenarioPoint → Type 0
AreRising ps = AllPairs IsBelow ps

-- all points have a lesser rate
abbrev pub AreSlower : Fraction → List ScenarioPoint → Type 0
AreSlower rate ps = (p : ScenarioPoint) → Contains ps p → IsSlower p.rate rate

-- some point has no lesser rate
abbrev pub HasNoSlower : Fraction → List ScenarioPoint → Type 0
HasNoSlower rate ps = (p : ScenarioPoint) × Contains ps p × (rate.num * p.rate.den ≤ p.rate.num * rate.den)

-- the last point has this storage
abbrev pub EndsAt : ℕ → List ScenarioPoint → Type 0
EndsAt total ps = (1 ≤ length ps) × ((p : ScenarioPoint) → slice_index_or ps (length ps - 1) p ≡ p → p.total ≡ total)

-- all points have less storage
abbrev pub AreEarlier : ℕ → List ScenarioPoint → Type 0
AreEarlier total ps = (p : ScenarioPoint) → Contains ps p → p.total < total

-- the points of less storage are left
pub record IsLeftOut (total : ℕ) (old new : List ScenarioPoint) : Type 0 where
  pub rising : AreRising new
  pub early : AreEarlier total new
  pub among : (p : ScenarioPoint) → Contains new p → Contains old p
  pub left : (p : ScenarioPoint) → Contains old p → Contains new p ⊎ (p.total ≡ total)

-- the point stands last, and all so far have a lesser rate; those of less storage are left
pub record IsPut (point : ScenarioPoint) (old new : List ScenarioPoint) : Type 0 where
  pub front : List ScenarioPoint
  pub is : new ≡ front ++ point ∷ []
  pub left : IsLeftOut point.total old front
  pub slower : AreSlower point.rate old

-- the point is put, or some point so far has no lesser rate and all stay
abbrev pub IsTaken : ScenarioPoint → List ScenarioPoint → List ScenarioPoint → Type 0
IsTaken point old new = IsPut point old new ⊎ ((new ≡ old) × HasNoSlower point.rate old)

-- the best rate is that of a point, or 0
abbrev pub IsBestOf : List ScenarioPoint → Fraction → Type 0
IsBestOf ps best = (best.num ≡ 0) ⊎ ((p : ScenarioPoint) × Contains ps p × (p.rate ≡ best))
