-- With which numbers the gate of a search is entered.
use Rattle.std.specs.Prelude.{ℕ, ◌≤◌, Contains, List}
use Rattle.sd_base.specs.declared.tables.ScenarioFile.{ScenarioFile}
use Rattle.storage.specs.ClosedLists.{Entry, HasEntry, IsClosedBy}
use Rattle.storage.specs.StorageOrder.{AreInOrder}
use Rattle.levels.specs.Entrances.{EnterByLevels}
use Rattle.levels.specs.Visits.{visited, visits_of}
use Rattle.bounded_scenarios.specs.SharedChannels.{shared_channels}
use Rattle.bounded_scenarios.specs.StorageRates.{HasWorstRate}
use Rattle.scenario_storage.specs.declared.point.ScenarioLimits.{ScenarioLimits}
use Rattle.scenario_storage.specs.declared.point.ScenarioPoint.{ScenarioPoint}

-- the distributions that were rated, those of the points among them, are a closed list within some storage, in order; each
-- entered with its storage for the level and its place among those of the level
pub record AreEntered (file : ScenarioFile) (limits : ScenarioLimits) (entered : ℕ → ℕ → Type 0) (points : List ScenarioPoint) : Type 0 where
  pub entries : List Entry
  pub storage : ℕ
  pub within : storage ≤ limits.total
  pub closed : IsClosedBy (shared_channels file) (HasWorstRate file) storage entries
  pub order : AreInOrder (shared_channels file) (visited (visits_of entries))
  pub each : EnterByLevels (shared_channels file) entered (visited (visits_of entries))
  pub listed : (p : ScenarioPoint) → Contains points p → HasEntry entries p.capacities.capacities
