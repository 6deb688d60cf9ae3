-- The search for the lexicographically first distribution that reaches a point.
use Rattle.std.specs.Prelude.{◌≡◌, ℕ, ◌≤◌, All, Contains, Some, List, slice_get, slice_index}
use Rattle.covers.specs.declared.bound.Bound.{Bound}
use Rattle.covers.specs.declared.lattice.Lattice.{Lattice}
use Rattle.covers.specs.declared.search.Order.TheVariants.{Lexicographic}
use Rattle.covers.specs.declared.search.Search.{Search}
use Rattle.covers.specs.Bounds.{IsAtMost}
use Rattle.covers.specs.Lattices.{IsAmong, storage_of}
use Rattle.covers.specs.Searches.{IsNotAfter, IsSearched, IsSettled, IsUncovered}
use Rattle.walks.specs.declared.telling.Telling.{Telling}
use Rattle.pareto_search.specs.declared.searching.Due.{Due}
use Rattle.pareto_search.specs.declared.stops.Stop.{Stop}
use Rattle.pareto_search.specs.declared.stops.Reach.{Reach}
use Rattle.pareto_search.specs.inside.Knowledge.{IsAbove}
use Rattle.pareto_search.specs.inside.Stops.{IsReach, IsStopTowards}
use Rattle.pareto_search.specs.inside.Turns.{IsBoundOf}

-- the search is one within the storage that is due, by vectors; it has the bounds of the tellings of lesser rates and no
-- others, all in force, and its best rate is less
pub record IsSlower (lattice : Lattice) (due : Due) (tellings : List Telling) (s : Search) : Type 0 where
  pub searched : IsSearched s
  pub by_vectors : s.order ≡ Lexicographic
  pub axes : s.lattice.axes ≡ lattice.axes
  pub limit : s.lattice.limit ≡ due.total
  pub best : IsAbove due.rate s.best
  pub force : All (λ (b : Bound). IsAtMost b.rate s.best) s.bounds.items
  pub each : (t : Telling) → Contains tellings t → IsAbove due.rate t.rate → (b : Bound) × Contains s.bounds.items b × IsBoundOf t b
  pub only : (b : Bound) → Contains s.bounds.items b → (t : Telling) × Contains tellings t × IsAbove due.rate t.rate × IsBoundOf t b

-- so it is, and leaves something
pub record IsLeft (lattice : Lattice) (tellings : List Telling) (s : Search) : Type 0 where
  pub due : Due
  pub slower : IsSlower lattice due tellings s
  pub within : due.total ≤ lattice.limit
  pub some : IsSettled s → ⊥

-- a walk came so far towards the first vector that the search leaves
pub record IsLooked (lattice : Lattice) (tellings : List Telling) (s : Search) (reach : Reach) : Type 0 where
  pub goal : List ℕ
  pub uncovered : IsUncovered s goal
  pub first : (ks : List ℕ) → IsUncovered s ks → IsNotAfter goal ks
  pub reached : IsReach lattice tellings goal reach

-- a walk towards a vector of the lattice that needs no more than the storage stopped there
pub record IsStopWithin (lattice : Lattice) (tellings : List Telling) (total : ℕ) (stop : Stop) : Type 0 where
  pub goal : List ℕ
  pub among : IsAmong lattice goal
  pub low : storage_of lattice.axes goal ≤ total
  pub towards : IsStopTowards lattice tellings goal stop

-- the telling at the place has the rate of what is due and needs its storage, and no vector of the lattice within that storage
-- that no bound of a lesser rate covers comes before it
pub record IsFirstAt (lattice : Lattice) (due : Due) (tellings : List Telling) (place : ℕ) : Type 0 where
  pub telling : Telling
  pub at : slice_get tellings place ≡ Some telling
  pub storage : storage_of lattice.axes telling.capacities ≡ due.total
  pub rate : IsAtMost due.rate telling.rate × IsAtMost telling.rate due.rate
  pub first : (ks : List ℕ) → IsAmong lattice ks → storage_of lattice.axes ks ≤ due.total →
      ((t : Telling) → Contains tellings t → IsAbove due.rate t.rate → All (λ (c : ℕ). slice_index ks c ≤ slice_index t.capacities c) t.bounding → ⊥) → IsNotAfter telling.capacities ks
