-- What the evaluation of distributions comes to.
use Rattle.std.specs.Prelude.{◌≡◌, ℕ, ◌*◌, ◌≤◌, All, Contains, MatchOption, Option, None, Some, List, [], Result, Ok, Err, length, slice_get, true}
use Rattle.sd_base.specs.declared.limits.TheConstants.{STORAGE}
use Rattle.sd_base.specs.declared.numbers.Fraction.{Fraction}
use Rattle.sd_base.specs.declared.tables.ScenarioFile.{ScenarioFile}
use Rattle.sd_base.specs.declared.tables.ScenarioRow.{ScenarioRow}
use Rattle.balance.specs.Repetition.{IsRound}
use Rattle.storage.specs.Distributions.{AtMost, IsDistribution, storage_of}
use Rattle.storage.specs.Steps.{IsOnGrid, rounded}
use Rattle.storage.specs.ClosedLists.{AgreesOn}
use Rattle.storage.specs.declared.distribution.Distribution.{Distribution}
use Rattle.bounded_scenarios.specs.SharedChannels.{shared_channels}
use Rattle.bounded_scenarios.specs.StorageRates.{HasWorstRate}
use Rattle.bounded_scenarios.specs.Boundings.{CanBeBounded}
use Rattle.scenario_storage.specs.declared.blocked.Blocked.{Blocked}
use Rattle.scenario_storage.specs.declared.point.ScenarioLimits.{ScenarioLimits}
use Rattle.scenario_storage.specs.declared.rated.Witness.{Witness}
use Rattle.scenario_storage.specs.declared.rated.Rated.{Rated}
use Rattle.scenario_storage.specs.declared.rated.RateError.{RateError}
use Rattle.scenario_storage.specs.declared.rated.RateError.TheVariants.{Edges, NoMemory}
use Rattle.scenario_storage.specs.ScenarioPoints.{HasTooManyEdges, IsShownBy}
use Rattle.scenario_storage.specs.inside.Shown.{AreShownBlocked, IsGuided}

-- each scenario has a repetition vector
abbrev pub HaveRounds : ScenarioFile → Type 0
HaveRounds file = (s : ℕ) (row : ScenarioRow) → slice_get file.scenarios s ≡ Some row → (gamma : List ℕ) × IsRound row.graph gamma

-- by scenario its repetition vector
pub record AreRounds (file : ScenarioFile) (gammas : List (List ℕ)) : Type 0 where
  pub all : length gammas ≡ length file.scenarios
  pub each : (s : ℕ) (row : ScenarioRow) → slice_get file.scenarios s ≡ Some row → (gamma : List ℕ) × (slice_get gammas s ≡ Some gamma) × IsRound row.graph gamma

-- what is searched
pub record IsPlan (file : ScenarioFile) (gammas : List (List ℕ)) (limits : ScenarioLimits) : Type 0 where
  pub bounded : CanBeBounded file limits.total
  pub rounds : AreRounds file gammas
  pub total : limits.total ≤ STORAGE

-- a distribution on the grid and within the limit
pub record IsWithin (file : ScenarioFile) (limit : ℕ) (ds : List (Option ℕ)) : Type 0 where
  pub distribution : IsDistribution (shared_channels file) ds
  pub grid : IsOnGrid (shared_channels file) ds
  pub within : storage_of (shared_channels file) ds ≤ limit

-- a rate bounds those of all distributions within the limit that have, rounded down, no less room than ds, and as much on
-- the channels that are shown
abbrev pub BoundsRates : ScenarioFile → ℕ → List (Option ℕ) → List ℕ → ℕ → ℕ → Type 0
BoundsRates file limit ds shown num den =
    (es : List (Option ℕ)) → IsDistribution (shared_channels file) es → storage_of (shared_channels file) es ≤ limit → AtMost ds (rounded (shared_channels file) es) →
    AgreesOn shown ds (rounded (shared_channels file) es) → (p q : ℕ) → HasWorstRate file es p q → 1 ≤ p → p * den ≤ num * q

-- a rate bounds those above 0 of all distributions within the limit
abbrev pub BoundsAll : ScenarioFile → ℕ → ℕ → ℕ → Type 0
BoundsAll file limit num den =
    (es : List (Option ℕ)) → IsDistribution (shared_channels file) es → storage_of (shared_channels file) es ≤ limit → (p q : ℕ) → HasWorstRate file es p q → 1 ≤ p → p * den ≤ num * q

-- the witness shows a rate
abbrev pub Shows : ScenarioFile → List (Option ℕ) → Fraction → Witness → Type 0
Shows file ds rate e = IsShownBy file ds rate e.shared e.graph e.worst

-- a distribution is blocked, and its channels are those that hold it up
pub record IsBlocked (file : ScenarioFile) (limit : ℕ) (b : Blocked) : Type 0 where
  pub fits : IsWithin file limit b.capacities.capacities
  pub shown : AreShownBlocked file b.capacities.capacities b.enlarge

-- the worst rate of a distribution, with channels that hold it back and bound it, or none and it bounds all; what is said to
-- block is blocked as these channels show; and the witness, or the rate is no more than the best
pub record IsRated (file : ScenarioFile) (limit : ℕ) (best : Fraction) (ds : List (Option ℕ)) (r : Rated) : Type 0 where
  pub rate : HasWorstRate file ds r.rate.num r.rate.den
  pub guided : (c : ℕ) → Contains r.enlarge c → IsGuided file ds c
  pub bounds : BoundsRates file limit ds r.enlarge r.rate.num r.rate.den
  pub top : r.enlarge ≡ [] → 1 ≤ r.rate.num → BoundsAll file limit r.rate.num r.rate.den
  pub blocks : r.blocks ≡ true → AreShownBlocked file ds r.enlarge
  pub witness : MatchOption r.witness (r.rate.num * best.den ≤ best.num * r.rate.den) (Shows file ds r.rate)

-- why a distribution isn't rated
abbrev pub IsRateRefusal : ScenarioFile → List (Option ℕ) → RateError → Type 0
IsRateRefusal file ds Edges = HasTooManyEdges file ds
IsRateRefusal file ds NoMemory = Unit {0}

-- what the evaluation of a distribution gives
abbrev pub IsRatingAnswer : ScenarioFile → ScenarioLimits → Fraction → List (Option ℕ) → Result Rated RateError → Type 0
IsRatingAnswer file limits best ds (Ok r) = IsRated file limits.total best ds r
IsRatingAnswer file limits best ds (Err e) = IsRateRefusal file ds e

abbrev pub IsAnswered : ScenarioFile → ScenarioLimits → Fraction → List (Option ℕ) → Option (Result Rated RateError) → Type 0
IsAnswered file limits best ds None = ⊥
IsAnswered file limits best ds (Some answer) = IsRatingAnswer file limits best ds answer

-- a distribution may be rated, given these blocked ones
pub record IsReady (file : ScenarioFile) (gammas : List (List ℕ)) (limits : ScenarioLimits) (bs : List Blocked) (d : Distribution) : Type 0 where
  pub plan : IsPlan file gammas limits
  pub blocked : All (IsBlocked file limits.total) bs
  pub fits : IsWithin file limits.total d.capacities

-- a task keeps its distribution and has its answer
pub record HasRun (file : ScenarioFile) (limits : ScenarioLimits) (best : Fraction) (before after : Distribution) (answer : Option (Result Rated RateError)) : Type 0 where
  pub same : after ≡ before
  pub answered : IsAnswered file limits best before.capacities answer

-- a task of a plan that hasn't run, with blocked distributions
pub record IsFresh (file : ScenarioFile) (gammas : List (List ℕ)) (limits : ScenarioLimits) (best : Fraction) (its_file : ScenarioFile) (its_gammas : List (List ℕ)) (its_limits : ScenarioLimits) (its_blocked : List Blocked) (its_best : Fraction) (d : Distribution) : Type 0 where
  pub file_is : its_file ≡ file
  pub gammas_are : its_gammas ≡ gammas
  pub limits_are : its_limits ≡ limits
  pub blocked : All (IsBlocked file limits.total) its_blocked
  pub best_is : its_best ≡ best
  pub fits : IsWithin file limits.total d.capacities
