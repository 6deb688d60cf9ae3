use Rattle.levels.proofs.SearchesSpread.{frontier-up_to}
use Rattle.levels.proofs.laws.levels_end_anywhere.Goals as goal

pub returns : goal.returns
returns g c = frontier-up_to
