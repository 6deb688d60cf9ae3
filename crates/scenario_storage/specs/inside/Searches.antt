-- Where a search for points stands: the distributions that were rated, those that are being rated, and those that wait.
use Rattle.std.specs.Prelude.{◌≡◌, ℕ, ◌+◌, ◌-◌, ◌*◌, ◌≤◌, ◌<◌, ◌⊎◌, true, All, Contains, Option, List, [], ◌++◌, length, map}
use Rattle.sd_base.specs.declared.numbers.Fraction.{Fraction}
use Rattle.sd_base.specs.declared.tables.ScenarioFile.{ScenarioFile}
use Rattle.storage.specs.Distributions.{IsDistribution, storage_of}
use Rattle.storage.specs.Steps.{IsCorner, IsOnGrid}
use Rattle.storage.specs.CapacityOrder.{no_later}
use Rattle.storage.specs.ClosedLists.{Entry}
use Rattle.storage.specs.StorageOrder.{IsBefore}
use Rattle.storage.specs.declared.distribution.Distribution.{Distribution}
use Rattle.levels.specs.declared.found.Level.{Level}
use Rattle.levels.specs.Visits.{AreVisits, visited, visits_of}
use Rattle.levels.specs.Frontiers.{IsFrontier, distributions_of}
use Rattle.bounded_scenarios.specs.SharedChannels.{shared_channels}
use Rattle.bounded_scenarios.specs.StorageRates.{HasWorstRate}
use Rattle.bounded_scenarios.specs.ScenarioGuides.{IsReachable}
use Rattle.scenario_storage.specs.declared.level.Answered.{Answered}
use Rattle.scenario_storage.specs.declared.point.ScenarioLimits.{ScenarioLimits}
use Rattle.scenario_storage.specs.declared.point.ScenarioPoint.{ScenarioPoint}
use Rattle.scenario_storage.specs.declared.rated.Witness.{Witness}
use Rattle.scenario_storage.specs.declared.rated.Rated.{Rated}
use Rattle.scenario_storage.specs.declared.search.Search.{Search}
use Rattle.scenario_storage.specs.ScenarioPoints.{IsShownBy}
use Rattle.scenario_storage.specs.inside.Levels.{BoundsAll, BoundsRates, IsBlocked, IsRatingAnswer, IsRated}
use Rattle.scenario_storage.specs.inside.Points.{AreRising}
use Rattle.scenario_storage.specs.inside.Shown.{IsGuided}

-- a distribution on the grid and within the limit that can be reached
pub record IsCandidate (file : ScenarioFile) (limit : ℕ) (ds : List (Option ℕ)) : Type 0 where
  pub distribution : IsDistribution (shared_channels file) ds
  pub grid : IsOnGrid (shared_channels file) ds
  pub within : storage_of (shared_channels file) ds ≤ limit
  pub reachable : IsReachable file limit ds

-- a distribution that was rated, as an entry of a closed list
abbrev pub entry_of : List (Option ℕ) → Rated → Entry
entry_of ds r = record { capacities = ds; shown = r.enlarge; num = r.rate.num; den = r.rate.den }

-- an entry is a candidate with its worst rate, and the channels that it shows are in its guide and bound the rate
pub record IsNoted (file : ScenarioFile) (limit : ℕ) (e : Entry) : Type 0 where
  pub candidate : IsCandidate file limit e.capacities
  pub rate : HasWorstRate file e.capacities e.num e.den
  pub positive : 1 ≤ e.den
  pub guided : (c : ℕ) → Contains e.shown c → IsGuided file e.capacities c
  pub bounds : BoundsRates file limit e.capacities e.shown e.num e.den

-- a point has no more storage and no less rate than an entry and, where both are equal, no later capacities
pub record Covers (file : ScenarioFile) (p : ScenarioPoint) (e : Entry) : Type 0 where
  pub storage : p.total ≤ storage_of (shared_channels file) e.capacities
  pub rate : e.num * p.rate.den ≤ p.rate.num * e.den
  pub tie : p.total ≡ storage_of (shared_channels file) e.capacities → e.num * p.rate.den ≡ p.rate.num * e.den → no_later p.capacities.capacities e.capacities ≡ true

-- some point covers an entry
abbrev pub IsCoveredBy : ScenarioFile → List ScenarioPoint → Entry → Type 0
IsCoveredBy file ps e = (p : ScenarioPoint) × Contains ps p × Covers file p e

-- a point has the distribution, the storage and the rate of an entry, which is above 0, and the rate is shown
pub record IsPointFor (file : ScenarioFile) (e : Entry) (p : ScenarioPoint) : Type 0 where
  pub capacities : e.capacities ≡ p.capacities.capacities
  pub num : e.num ≡ p.rate.num
  pub den : e.den ≡ p.rate.den
  pub total : p.total ≡ storage_of (shared_channels file) e.capacities
  pub runs : 1 ≤ p.rate.num
  pub shown : IsShownBy file p.capacities.capacities p.rate p.shared p.graph p.worst

-- it is so with some entry
abbrev pub IsPointOf : ScenarioFile → List Entry → ScenarioPoint → Type 0
IsPointOf file es p = (e : Entry) × Contains es e × IsPointFor file e p

-- the points rise; each is that of an entry, and each entry with a rate above 0 is covered
pub record AreKnown (file : ScenarioFile) (limit : ℕ) (es : List Entry) (ps : List ScenarioPoint) : Type 0 where
  pub noted : (e : Entry) → Contains es e → IsNoted file limit e
  pub rising : AreRising ps
  pub among : (p : ScenarioPoint) → Contains ps p → IsPointOf file es p
  pub covers : (e : Entry) → Contains es e → 1 ≤ e.num → IsCoveredBy file ps e

-- some entry has a rate above 0 that bounds those of all distributions within the limit
abbrev pub HasTop : ScenarioFile → ℕ → List Entry → Type 0
HasTop file limit es = (e : Entry) × Contains es e × (1 ≤ e.num) × BoundsAll file limit e.num e.den

-- where a search stands that has these distributions taken off, and whose levels before the floor are taken in: from the
-- corner it has made the visits that its entries are, and it keeps blocked distributions
pub record IsSearch (file : ScenarioFile) (limits : ScenarioLimits) (floor : ℕ) (taken : List (List (Option ℕ))) (s : Search) : Type 0 where
  pub entries : List Entry
  pub known : AreKnown file limits.total entries s.points.items
  pub corner : List (Option ℕ)
  pub is_corner : IsCorner (shared_channels file) corner
  pub bounds : s.levels.bounds ≡ record { total = limits.total; distributions = limits.distributions }
  pub frontier : IsFrontier (shared_channels file) corner floor (visits_of entries) taken s.levels
  pub blocked : All (IsBlocked file limits.total) s.blocked.items
  pub top : s.topped ≡ true → HasTop file limits.total entries

-- the same, of which all distributions are these: those of its entries, and those that are taken off
abbrev pub IsSearchOf : ScenarioFile → ScenarioLimits → ℕ → List (List (Option ℕ)) → List (List (Option ℕ)) → Search → Type 0
IsSearchOf file limits floor all taken s = (search : IsSearch file limits floor taken s) × (visited (visits_of search.entries) ++ taken ≡ all)

-- where a search stands between two levels, with the distributions of its entries
abbrev pub IsStanding : ScenarioFile → ScenarioLimits → List (List (Option ℕ)) → Search → Type 0
IsStanding file limits all s = (floor : ℕ) × IsSearchOf file limits floor all [] s

-- a search is to take in this level, which was taken off those that waited
pub record IsTurn (file : ScenarioFile) (limits : ScenarioLimits) (level : Level Unit) (s : Search) : Type 0 where
  pub search : IsSearch file limits (level.total + 1) (distributions_of level.visits.items) s
  pub totals : All (λ f. storage_of (shared_channels file) f.capacities.capacities ≡ level.total) level.visits.items
  pub low : All (λ ds. storage_of (shared_channels file) ds < level.total) (visited (visits_of search.entries))
  pub before : (p : ScenarioPoint) → Contains s.points.items p → p.total < level.total
  pub candidates : All (λ f. IsCandidate file limits.total f.capacities.capacities) level.visits.items
  pub within : level.total ≤ limits.total

-- the same after these distributions
abbrev pub IsTurnAfter : ScenarioFile → ScenarioLimits → List (List (Option ℕ)) → Level Unit → Search → Type 0
IsTurnAfter file limits all level s = (turn : IsTurn file limits level s) × (visited (visits_of turn.search.entries) ≡ all)

-- the entries are all visits from the corner within a storage: the limit, or one after which no rate is greater
pub record IsEnded (file : ScenarioFile) (limits : ScenarioLimits) (ps : List ScenarioPoint) : Type 0 where
  pub entries : List Entry
  pub known : AreKnown file limits.total entries ps
  pub corner : List (Option ℕ)
  pub is_corner : IsCorner (shared_channels file) corner
  pub storage : ℕ
  pub low : storage ≤ limits.total
  pub visits : AreVisits (shared_channels file) corner storage (visits_of entries)
  pub rest : (limits.total ≤ storage) ⊎ HasTop file limits.total entries

-- the same, with the distributions of the entries
abbrev pub IsEndedWith : ScenarioFile → ScenarioLimits → List (List (Option ℕ)) → List ScenarioPoint → Type 0
IsEndedWith file limits all ps = (ended : IsEnded file limits ps) × (visited (visits_of ended.entries) ≡ all)

-- the distributions of answers
abbrev pub answered_of : List Answered → List (List (Option ℕ))
answered_of answers = map (λ (a : Answered). a.capacities.capacities) answers

-- an answer of a distribution of the level with this storage, given the best rate of less
pub record IsAnswerOf (file : ScenarioFile) (limits : ScenarioLimits) (total : ℕ) (best : Fraction) (a : Answered) : Type 0 where
  pub answer : IsRatingAnswer file limits best a.capacities.capacities a.answer
  pub storage : storage_of (shared_channels file) a.capacities.capacities ≡ total

-- the best rate is that of a point of less storage, or 0
abbrev pub IsBest : Fraction → ℕ → List ScenarioPoint → Type 0
IsBest best total ps = (best.num ≡ 0) ⊎ ((p : ScenarioPoint) × Contains ps p × (p.rate ≡ best) × (p.total < total))

-- what was rated of a distribution of this storage is to be taken in after these entries
pub record IsOffered (file : ScenarioFile) (limit : ℕ) (es : List Entry) (best : Fraction) (total : ℕ) (ds : List (Option ℕ)) (r : Rated) (ps : List ScenarioPoint) : Type 0 where
  pub known : AreKnown file limit es ps
  pub rated : IsRated file limit best ds r
  pub candidate : IsCandidate file limit ds
  pub storage : storage_of (shared_channels file) ds ≡ total
  pub after : (x : Entry) → Contains es x → IsBefore (shared_channels file) x.capacities ds
  pub fastest : IsBest best total ps

-- what was rated has a rate above 0 and shows no channel
abbrev pub ShowsNone : Rated → Type 0
ShowsNone r = (r.enlarge ≡ []) × (1 ≤ r.rate.num)

-- the point has these parts
pub record IsPointWith (total : ℕ) (rate : Fraction) (capacities : Distribution) (e : Witness) (p : ScenarioPoint) : Type 0 where
  pub total_is : p.total ≡ total
  pub rate_is : p.rate ≡ rate
  pub capacities_are : p.capacities ≡ capacities
  pub shared_is : p.shared ≡ e.shared
  pub graph_is : p.graph ≡ e.graph
  pub worst_is : p.worst ≡ e.worst

-- points of less storage stay
abbrev pub KeepsEarlier : ℕ → List ScenarioPoint → List ScenarioPoint → Type 0
KeepsEarlier total old new = (p : ScenarioPoint) → Contains old p → p.total < total → Contains new p

-- the distributions that a search has taken off
abbrev pub taken_off : Search → ℕ
taken_off s = s.levels.found - length s.levels.waiting
