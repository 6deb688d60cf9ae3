-- Walks: from what was told, or from the corner, towards a goal, and where they end.
use Rattle.std.specs.Prelude.{◌≡◌, ℕ, ◌+◌, ◌≤◌, All, Contains, List, None, Option, Some, map, slice_get, slice_index, slice_index_or, slice_set}
use Rattle.covers.specs.declared.lattice.Axis.{Axis}
use Rattle.covers.specs.Lattices.{IsOnLattice, corner_of}
use Rattle.walks.specs.declared.ends.Walk.{Walk}
use Rattle.walks.specs.declared.ends.Walk.TheVariants.{Held, Stopped}
use Rattle.walks.specs.declared.telling.Telling.{Telling}
use Rattle.walks.specs.Tellings.{HoldsBack, IsHeld, IsUnder, IsUnderAt}

-- each telling is of capacities of the lattice
abbrev pub AreOnLattice : List Axis → List Telling → Type 0
AreOnLattice axes tellings = All (λ (t : Telling). IsOnLattice axes t.capacities) tellings

-- the step of a channel; past the last one it is 1
abbrev pub step_at : List Axis → ℕ → ℕ
step_at axes c = slice_index_or (map (λ (a : Axis). a.step) axes) c 1

-- the vector with a step more on a channel
abbrev pub with_step : List Axis → List ℕ → ℕ → List ℕ
with_step axes ks c = slice_set ks c (slice_index ks c + step_at axes c)

-- what walks come to: the corner, told capacities that have no more than the goal, and from capacities that a telling holds
-- back those with a step more on a channel that it shows, where the goal has so much
pub data IsWalked (axes : List Axis) (tellings : List Telling) (corner goal : List ℕ) : List ℕ → Type 0 where
  begin : IsWalked axes tellings corner goal corner
  begin_at : (t : Telling) → Contains tellings t → IsUnder t.capacities goal → IsWalked axes tellings corner goal t.capacities
  step : (ks : List ℕ) (t : Telling) (c : ℕ) → IsWalked axes tellings corner goal ks → Contains tellings t → HoldsBack t ks → Contains t.enlarge c → slice_index ks c + step_at axes c ≤ slice_index goal c →
      IsWalked axes tellings corner goal (with_step axes ks c)

-- the telling at the place has no more than the capacities; none where they are the corner
abbrev pub IsBy : List Axis → List Telling → List ℕ → Option ℕ → Type 0
IsBy axes tellings ks None = ks ≡ corner_of axes
IsBy axes tellings ks (Some place) = IsUnderAt tellings ks place

-- a walk came to the capacities, and no telling holds them back
pub record StopsAt (axes : List Axis) (tellings : List Telling) (goal ks : List ℕ) (by : Option ℕ) : Type 0 where
  pub walked : IsWalked axes tellings (corner_of axes) goal ks
  pub on : IsOnLattice axes ks
  pub below : IsUnder ks goal
  pub unknown : IsHeld tellings ks → ⊥
  pub last : IsBy axes tellings ks by

-- the telling holds back what a walk came to, and the goal has no more than that on the channels that it shows
pub record HoldsWalk (axes : List Axis) (tellings : List Telling) (goal : List ℕ) (t : Telling) : Type 0 where
  pub capacities : List ℕ
  pub walked : IsWalked axes tellings (corner_of axes) goal capacities
  pub on : IsOnLattice axes capacities
  pub below : IsUnder capacities goal
  pub holds : HoldsBack t capacities
  pub no_more : All (λ (c : ℕ). slice_index goal c ≤ slice_index capacities c) t.enlarge

-- where a walk ended
abbrev pub IsEnd : List Axis → List Telling → List ℕ → Walk → Type 0
IsEnd axes tellings goal (Stopped ks by) = StopsAt axes tellings goal ks by
IsEnd axes tellings goal (Held place) = (t : Telling) × (slice_get tellings place ≡ Some t) × HoldsWalk axes tellings goal t
