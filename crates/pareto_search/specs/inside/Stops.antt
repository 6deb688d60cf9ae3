-- Where walks stop: capacities that are to be evaluated.
use Rattle.std.specs.Prelude.{◌≡◌, ℕ, ◌≤◌, ◌<◌, ◌⊎◌, All, Contains, Option, Some, List, [], ◌∷◌, length, slice_get, slice_index}
use Rattle.std.specs.declared.cmp.Ordering.{Ordering}
use Rattle.std.specs.declared.cmp.Ordering.TheVariants.{Less, Equal}
use Rattle.std.specs.Ordering.{nat_cmp}
use Rattle.std.specs.Cmp.Lexicographic.{slice_cmp}
use Rattle.sd_base.specs.declared.limits.Limits.{Limits}
use Rattle.sd_base.specs.Net.{Net}
use Rattle.covers.specs.declared.lattice.Lattice.{Lattice}
use Rattle.covers.specs.Lattices.{IsAmong, storage_of}
use Rattle.walks.specs.declared.telling.Telling.{Telling}
use Rattle.walks.specs.Tellings.{IsHeld, IsUnder}
use Rattle.walks.specs.Walks.{IsBy, StopsAt}
use Rattle.explore.specs.Reachable.{IsReachable}
use Rattle.pareto_search.specs.declared.stops.Reach.{Reach}
use Rattle.pareto_search.specs.declared.stops.Reach.TheVariants.{Held, Stopped}
use Rattle.pareto_search.specs.declared.stops.Stop.{Stop}
use Rattle.pareto_search.specs.inside.Vectors.{bounded_by, vector_of}

-- a vector of the lattice within the limit that no telling covers: it has more on some channel that the telling shows
pub record IsGoal (lattice : Lattice) (tellings : List Telling) (ks : List ℕ) : Type 0 where
  pub among : IsAmong lattice ks
  pub free : (t : Telling) → Contains tellings t → All (λ (c : ℕ). slice_index ks c ≤ slice_index t.capacities c) t.enlarge → ⊥

-- a walk towards the goal ended there, and it needs so much storage
pub record IsStopTowards (lattice : Lattice) (tellings : List Telling) (goal : List ℕ) (s : Stop) : Type 0 where
  pub stops : StopsAt lattice.axes tellings goal s.capacities s.by
  pub storage : s.storage ≡ storage_of lattice.axes s.capacities

-- a walk towards the goal stopped, or the telling at the place has no more than the goal, and no less on the channels that it
-- shows
abbrev pub IsReach : Lattice → List Telling → List ℕ → Reach → Type 0
IsReach lattice tellings goal (Stopped stop) = IsStopTowards lattice tellings goal stop
IsReach lattice tellings goal (Held place) = (t : Telling) × (slice_get tellings place ≡ Some t) × IsUnder t.capacities goal × All (λ (c : ℕ). slice_index goal c ≤ slice_index t.capacities c) t.enlarge

-- a walk towards one of the goals ended there, and no telling holds it back: a reachable distribution, of which nothing is
-- known
pub record IsStop (net : Net) (limits : Limits) (corner : List (Option ℕ)) (lattice : Lattice) (tellings : List Telling) (goals : List (List ℕ)) (s : Stop) : Type 0 where
  pub among : IsAmong lattice s.capacities
  pub flat : vector_of (bounded_by corner s.capacities) ≡ s.capacities
  pub reachable : IsReachable net limits.total (bounded_by corner s.capacities)
  pub free : IsHeld tellings s.capacities → ⊥
  pub by : IsBy lattice.axes tellings s.capacities s.by
  pub storage : s.storage ≡ storage_of lattice.axes s.capacities
  pub goal : List ℕ
  pub goal_in : Contains goals goal
  pub under : IsUnder s.capacities goal

-- the capacities of the first come before those of the second in lexicographic order
abbrev pub IsBefore : Stop → Stop → Type 0
IsBefore s t = slice_cmp nat_cmp s.capacities t.capacities ≡ Less

-- each stop comes before all later ones, so that none is there twice
abbrev pub AreAscending : List Stop → Type 0
AreAscending [] = Unit {0}
AreAscending (s ∷ rest) = All (IsBefore s) rest × AreAscending rest

-- all need the same storage, and they ascend
pub record AreLevel (stops : List Stop) : Type 0 where
  pub needed : (s t : Stop) → Contains stops s → Contains stops t → s.storage ≡ t.storage
  pub ascending : AreAscending stops

-- one of the stops needs less, or has the same capacities and storage
abbrev pub IsTakenIn : List Stop → Stop → Type 0
IsTakenIn stops s = (t : Stop) × Contains stops t × ((t.storage < s.storage) ⊎ ((t.capacities ≡ s.capacities) × (t.storage ≡ s.storage)))

-- so it is where a walk towards the goal stops
abbrev pub IsMet : Lattice → List Telling → List Stop → List ℕ → Type 0
IsMet lattice tellings stops goal = (s : Stop) × IsStopTowards lattice tellings goal s × IsTakenIn stops s

-- how a storage compares with that of the first stop; where there is none, as equal
abbrev pub against : ℕ → List Stop → Ordering
against storage [] = Equal
against storage (s ∷ rest) = nat_cmp storage s.storage

-- the stops before the place come before the capacities, and the one there comes after them
pub record IsPlace (stops : List Stop) (ks : List ℕ) (i : ℕ) : Type 0 where
  pub within : i ≤ length stops
  pub before : (j : ℕ) (s : Stop) → j < i → slice_get stops j ≡ Some s → slice_cmp nat_cmp s.capacities ks ≡ Less
  pub after : (s : Stop) → slice_get stops i ≡ Some s → slice_cmp nat_cmp ks s.capacities ≡ Less

-- a stop has the capacities
abbrev pub HasStop : List Stop → List ℕ → Type 0
HasStop stops ks = (s : Stop) × Contains stops s × (s.capacities ≡ ks)
