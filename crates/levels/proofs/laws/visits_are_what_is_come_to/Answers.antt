use Rattle.levels.proofs.VisitsAreComeTo.{come-visits}
use Rattle.levels.proofs.laws.visits_are_what_is_come_to.Goals as goal

pub returns : goal.returns
returns c = come-visits
