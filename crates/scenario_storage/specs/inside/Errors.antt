-- What ends a search by levels ends the search for points.
use Rattle.levels.specs.declared.error.LevelsError.{LevelsError}
use Rattle.levels.specs.declared.error.LevelsError.TheVariants as levels
use Rattle.scenario_storage.specs.declared.error.ScenarioStorageError.{ScenarioStorageError}
use Rattle.scenario_storage.specs.declared.error.ScenarioStorageError.TheVariants.{DistributionsSpent, NoMemory}

abbrev pub error_of : LevelsError → ScenarioStorageError
error_of levels.Spent = DistributionsSpent
error_of levels.NoMemory = NoMemory
