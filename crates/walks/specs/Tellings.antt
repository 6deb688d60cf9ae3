-- What evaluations told, and which capacities that holds back.
use Rattle.std.specs.Prelude.{◌≡◌, ℕ, ◌≤◌, All, Contains, List, Some, slice_get, slice_index}
use Rattle.walks.specs.declared.telling.Telling.{Telling}

-- the first vector has no more than the second on any channel
abbrev pub IsUnder : List ℕ → List ℕ → Type 0
IsUnder js ks = (c : ℕ) → slice_index js c ≤ slice_index ks c

-- the telling at the place has no more than the capacities
abbrev pub IsUnderAt : List Telling → List ℕ → ℕ → Type 0
IsUnderAt tellings ks place = (t : Telling) × (slice_get tellings place ≡ Some t) × IsUnder t.capacities ks

-- the capacities are no less than those that were evaluated, and the same on the channels that the telling shows
pub record HoldsBack (t : Telling) (ks : List ℕ) : Type 0 where
  pub most : IsUnder t.capacities ks
  pub same : All (λ (c : ℕ). slice_index ks c ≡ slice_index t.capacities c) t.enlarge

-- one of the tellings holds the capacities back
abbrev pub IsHeld : List Telling → List ℕ → Type 0
IsHeld tellings ks = (t : Telling) × Contains tellings t × HoldsBack t ks

-- the telling at the place does
abbrev pub IsHeldAt : List Telling → List ℕ → ℕ → Type 0
IsHeldAt tellings ks place = (t : Telling) × (slice_get tellings place ≡ Some t) × HoldsBack t ks
