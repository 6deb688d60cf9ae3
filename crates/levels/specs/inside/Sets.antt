-- Those that wait, in a set for each storage.
use Rattle.std.specs.Prelude.{◌≡◌, ℕ, ◌<◌, ◌≤◌, All, Bool, List, [], ◌∷◌, ◌++◌, length}
use Rattle.std.specs.List.{IsDistinct}
use Rattle.std.specs.Ordering.{eq_by_cmp}
use Rattle.indexmap.specs.IndexSet.{IndexSet}
use Rattle.levels.specs.declared.found.Found.{Found}
use Rattle.levels.specs.WaitingOrder.{waiting_cmp}

-- whether two that were found have one distribution
abbrev pub found_eq : {H : Type 0} → Found H → Found H → Bool
found_eq {H} = eq_by_cmp (waiting_cmp (λ (f : Found H). f.total) (λ (f : Found H). f.capacities.capacities))

module _ {H S : Type 0} where
  -- those of all sets, by rising storage
  abbrev pub waiting_in : List (ℕ × IndexSet (Found H) S) → List (Found H)
  waiting_in [] = []
  waiting_in (e ∷ es) = e.1.keys ++ waiting_in es

  -- a set with the storage of those in it, each distribution once; it isn't empty
  pub record IsSet (e : ℕ × IndexSet (Found H) S) : Type 0 where
    pub totals : All (λ (f : Found H). f.total ≡ e.0) e.1.keys
    pub differ : IsDistinct found_eq e.1.keys
    pub some : 1 ≤ length e.1.keys

  -- each is a set, and those in it need less storage than those in the later ones
  abbrev pub AreSets : List (ℕ × IndexSet (Found H) S) → Type 0
  AreSets [] = Unit {0}
  AreSets (e ∷ es) = IsSet e × All (λ (f : Found H). e.0 < f.total) (waiting_in es) × AreSets es
