-- What ends a search ends an exploration.
use Rattle.levels.specs.declared.error.LevelsError.{LevelsError}
use Rattle.levels.specs.declared.error.LevelsError.TheVariants as levels
use Rattle.explore.specs.declared.error.ExploreError.{ExploreError}
use Rattle.explore.specs.declared.error.ExploreError.TheVariants.{DistributionsSpent, NoMemory}

abbrev pub error_of : LevelsError → ExploreError
error_of levels.Spent = DistributionsSpent
error_of levels.NoMemory = NoMemory
