-- Where a search for the Pareto points stands, turn by turn.
use Rattle.std.specs.Prelude.{◌≡◌, ℕ, ◌+◌, ◌-◌, ◌*◌, ◌≤◌, ◌<◌, ◌⊎◌, ◌↔◌, All, Bool, true, false, Contains, Option, None, Some, List, [], ◌∷◌, ◌++◌, drop, length, map, slice_index, take}
use Rattle.sd_base.specs.declared.limits.Limits.{Limits}
use Rattle.sd_base.specs.declared.numbers.Fraction.{Fraction}
use Rattle.sd_base.specs.Net.{Net}
use Rattle.sd_base.specs.Rates.{Rate}
use Rattle.lasso.specs.LoopAnswers.{IsFound}
use Rattle.storage.specs.BoundedNets.{bound}
use Rattle.storage.specs.ParetoPoints.{Reaches}
use Rattle.pareto_front.specs.declared.point.Point.{Point}
use Rattle.covers.specs.declared.bound.Bound.{Bound}
use Rattle.covers.specs.declared.lattice.Lattice.{Lattice}
use Rattle.covers.specs.declared.search.Level.{Level}
use Rattle.covers.specs.declared.search.Order.TheVariants.{Storage}
use Rattle.covers.specs.Bounds.{Covers, IsAtMost, IsCovered}
use Rattle.covers.specs.Lattices.{IsAmong, storage_of}
use Rattle.covers.specs.Searches.{IsSearched}
use Rattle.walks.specs.declared.telling.Telling.{Telling}
use Rattle.explore.specs.Explorations.{IsPoint}
use Rattle.pareto_search.specs.Entrances.{AreApart, EnterLevels}
use Rattle.pareto_search.specs.declared.searching.Due.{Due}
use Rattle.pareto_search.specs.declared.searching.Searching.{Searching}
use Rattle.pareto_search.specs.declared.stops.Stop.{Stop}
use Rattle.pareto_search.specs.inside.Knowledge.{IsAbove, IsKnown, told_of}
use Rattle.pareto_search.specs.inside.Stops.{IsStop}
use Rattle.pareto_search.specs.inside.Vectors.{bounded_by}

-- the bound covers what has no more, on the channels on which it bounds, than what was told, and its rate is that which was told
pub record IsBoundOf (t : Telling) (b : Bound) : Type 0 where
  pub covers : (ks : List ℕ) → Covers b ks ↔ All (λ (c : ℕ). slice_index ks c ≤ slice_index t.capacities c) t.bounding
  pub rate : b.rate ≡ t.rate

-- one of the bounds is that of what was told
abbrev pub HasBound : List Bound → Telling → Type 0
HasBound bs t = (b : Bound) × Contains bs b × IsBoundOf t b

-- what the bound covers has no greater rate
abbrev pub IsValid : Net → List (Option ℕ) → Lattice → Bound → Type 0
IsValid net corner lattice b = (ks : List ℕ) → IsAmong lattice ks → Covers b ks → (x y : ℕ) → Rate (bound net (bounded_by corner ks)) x y → x * b.rate.den ≤ b.rate.num * y

-- both rates are equal
abbrev pub IsSameRate : Fraction → Fraction → Type 0
IsSameRate r s = IsAtMost r s × IsAtMost s r

-- each point has less storage and a lesser rate than each later one
abbrev pub AreRising : List Point → Type 0
AreRising [] = Unit {0}
AreRising (p ∷ ps) = All (λ (q : Point). (p.total < q.total) × IsAbove q.rate p.rate) ps × AreRising ps

-- a point of no more storage has no lesser rate
pub record HasPoint (points : List Point) (storage num den : ℕ) : Type 0 where
  pub point : Point
  pub among : Contains points point
  pub low : point.total ≤ storage
  pub fast : num * point.rate.den ≤ point.rate.num * den

-- what was told of a point
pub record IsToldOf (lattice : Lattice) (tellings : List Telling) (p : Point) : Type 0 where
  pub telling : Telling
  pub among : Contains tellings telling
  pub storage : storage_of lattice.axes telling.capacities ≡ p.total
  pub runs : 1 ≤ telling.rate.num

-- the points rise, are reached within less storage than the floor by what was told and have no greater rate than the last one,
-- and whatever has no greater rate than that has a point
pub record IsPointed (net : Net) (limits : Limits) (lattice : Lattice) (tellings : List Telling) (below : Fraction) (floor : ℕ) (points : List Point) : Type 0 where
  pub reached : (p : Point) → Contains points p → IsPoint net limits p
  pub rising : AreRising points
  pub early : (p : Point) → Contains points p → p.total < floor
  pub slow : (p : Point) → Contains points p → IsAtMost p.rate below
  pub told : (p : Point) → Contains points p → IsToldOf lattice tellings p
  pub all : (storage num den : ℕ) (ds : List (Option ℕ)) → Reaches net limits.total storage num den ds → num * below.den ≤ below.num * den → HasPoint points storage num den

-- what is due was told, at the storage of the floor, and has a greater rate than the last point
pub record IsDueAt (lattice : Lattice) (tellings : List Telling) (below : Fraction) (floor : ℕ) (d : Due) : Type 0 where
  pub above : IsAbove d.rate below
  pub total : d.total ≡ floor
  pub telling : Telling
  pub among : Contains tellings telling
  pub storage : storage_of lattice.axes telling.capacities ≡ d.total
  pub rate : telling.rate ≡ d.rate

-- the best rate is that of what is due, or of the last point
abbrev pub IsDue : Lattice → List Telling → Fraction → ℕ → Fraction → Option Due → Type 0
IsDue lattice tellings below floor best None = IsSameRate best below
IsDue lattice tellings below floor best (Some d) = IsDueAt lattice tellings below floor d × IsSameRate best d.rate

-- the bounds of so many tellings are kept, of which none has a greater rate than the best one, and maybe other bounds that are
-- valid; the other tellings need no more storage than the floor. What needs less than the floor is covered by a bound of no
-- greater rate than that of the last point
pub record IsAbsorbed (net : Net) (limits : Limits) (corner : List (Option ℕ)) (lattice : Lattice) (floor many : ℕ) (s : Searching) : Type 0 where
  pub searched : IsSearched s.bounds
  pub by_storage : s.bounds.order ≡ Storage
  pub lattice_is : s.bounds.lattice ≡ lattice
  pub kept : All (HasBound s.bounds.bounds.items) (take many s.known.tellings.items)
  pub valid : All (IsValid net corner lattice) s.bounds.bounds.items
  pub most : All (λ (t : Telling). IsAtMost t.rate s.bounds.best) (take many s.known.tellings.items)
  pub later : All (λ (t : Telling). storage_of lattice.axes t.capacities ≤ floor) (drop many s.known.tellings.items)
  pub known : IsKnown net limits corner lattice s.below s.known
  pub settled : (ks : List ℕ) → IsAmong lattice ks → storage_of lattice.axes ks < floor → IsCovered s.bounds.bounds.items s.below ks
  pub due : IsDue lattice s.known.tellings.items s.below floor s.bounds.best s.due
  pub pointed : IsPointed net limits lattice s.known.tellings.items s.below floor s.points.items

-- so are the bounds of all tellings
abbrev pub IsStanding : Net → Limits → List (Option ℕ) → Lattice → ℕ → Searching → Type 0
IsStanding net limits corner lattice floor s = IsAbsorbed net limits corner lattice floor (length s.known.tellings.items) s

-- no point is due, and all is covered by bounds of no greater rate than that of the last point
pub record IsOver (net : Net) (limits : Limits) (corner : List (Option ℕ)) (lattice : Lattice) (s : Searching) : Type 0 where
  pub floor : ℕ
  pub standing : IsStanding net limits corner lattice floor s
  pub none : s.due ≡ None
  pub all : (ks : List ℕ) → IsAmong lattice ks → IsCovered s.bounds.bounds.items s.below ks

-- all that needs no more than what is due is covered by bounds of no greater rate than the best one
abbrev pub IsClosed : Lattice → Due → Searching → Type 0
IsClosed lattice due s = (ks : List ℕ) → IsAmong lattice ks → storage_of lattice.axes ks ≤ due.total → IsCovered s.bounds.bounds.items s.bounds.best ks

-- the greatest rate so far: that of what is due, or else of the last point
abbrev pub greatest_of : Option Due → Fraction → Fraction
greatest_of None below = below
greatest_of (Some d) below = d.rate

-- a rate above it that was reached at a storage is due, and else what was due before
abbrev pub IsDueWith : Option Due → Fraction → Fraction → ℕ → Option Due → Type 0
IsDueWith due below rate total new =
    (IsAbove rate (greatest_of due below) × (new ≡ Some (record { total = total; rate = rate })))
    ⊎ (IsAtMost rate (greatest_of due below) × (new ≡ due))

-- a rate above the best one was told, within the floor
abbrev pub HasFaster : Lattice → ℕ → List Telling → Fraction → Type 0
HasFaster lattice floor tellings best = (t : Telling) × Contains tellings t × (storage_of lattice.axes t.capacities ≤ floor) × IsAbove t.rate best

-- a search has learned more: the points and what was told and covered stay, and what is due does, unless a greater rate was told
pub record IsOnward (lattice : Lattice) (floor : ℕ) (old new : Searching) : Type 0 where
  pub points : new.points ≡ old.points
  pub below : new.below ≡ old.below
  pub tellings : (more : List Telling) × (new.known.tellings.items ≡ old.known.tellings.items ++ more)
  pub best : IsAtMost old.bounds.best new.bounds.best
  pub covered : (ks : List ℕ) → IsCovered old.bounds.bounds.items old.bounds.best ks → IsCovered new.bounds.bounds.items new.bounds.best ks
  pub due : (new.due ≡ old.due) ⊎ HasFaster lattice floor new.known.tellings.items old.bounds.best

-- where what was told before entered level by level, so did what is told now
abbrev pub EntersOn : Net → List (Option ℕ) → (ℕ → ℕ → Type 0) → List Telling → List Telling → Type 0
EntersOn net corner entered old new = EnterLevels net entered (told_of corner old) → EnterLevels net entered (told_of corner new)

-- where walks stopped, each at other capacities, at one at least, which need no more than the floor
pub record AreStops (net : Net) (limits : Limits) (corner : List (Option ℕ)) (lattice : Lattice) (tellings : List Telling) (floor : ℕ) (stops : List Stop) : Type 0 where
  pub goals : List (List ℕ)
  pub each : All (IsStop net limits corner lattice tellings goals) stops
  pub low : All (λ (s : Stop). storage_of lattice.axes s.capacities ≤ floor) stops
  pub apart : AreApart (map (λ (s : Stop). bounded_by corner s.capacities) stops)
  pub some : 1 ≤ length stops

-- a point is due that no distribution of its storage passes
pub record IsSettling (net : Net) (limits : Limits) (corner : List (Option ℕ)) (lattice : Lattice) (due : Due) (s : Searching) : Type 0 where
  pub standing : IsStanding net limits corner lattice due.total s
  pub is_due : s.due ≡ Some due
  pub closed : IsClosed lattice due s

-- the point has the storage that is due, and the rate, the distribution and the loop of what was told
pub record IsPointOf (net : Net) (states : ℕ) (corner : List (Option ℕ)) (total : ℕ) (t : Telling) (p : Point) : Type 0 where
  pub total_is : p.total ≡ total
  pub rate : p.rate ≡ t.rate
  pub capacities : p.capacities.capacities ≡ bounded_by corner t.capacities
  pub found : IsFound (bound net (bounded_by corner t.capacities)) states p.table

-- the level is the one that was found, and needs no more than what is due; or there is none such
abbrev pub IsUntil : Option Level → Option Due → Option Level → Type 0
IsUntil found due None = (l : Level) → found ≡ Some l → (d : Due) × (due ≡ Some d) × (d.total < l.storage)
IsUntil found due (Some level) = (found ≡ Some level) × ((d : Due) → due ≡ Some d → level.storage ≤ d.total)

-- whether a point is due
abbrev pub one_due : Option Due → ℕ
one_due None = 0
one_due (Some d) = 1

-- what falls from turn to turn
abbrev pub weight : ℕ → Searching → ℕ
weight distributions s = 2 * (distributions - length s.known.tellings.items) + one_due s.due

-- a turn leaves a search that goes on with less before it, or one that is over
abbrev pub IsTurned : Net → Limits → List (Option ℕ) → Lattice → Searching → Searching → Bool → Type 0
IsTurned net limits corner lattice old new true = ((floor : ℕ) × IsStanding net limits corner lattice floor new) × (weight limits.distributions new < weight limits.distributions old)
IsTurned net limits corner lattice old new false = IsOver net limits corner lattice new
