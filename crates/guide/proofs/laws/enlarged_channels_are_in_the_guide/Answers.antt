use Rattle.guide.proofs.EnlargedAreInGuide.{cycle-shows, evaluation-shows}
use Rattle.guide.proofs.laws.enlarged_channels_are_in_the_guide.Goals as goal

pub returns-clause-cycle : goal.returns-clause-cycle
returns-clause-cycle c = λ net table cycle i channel critical below space. cycle-shows net table cycle critical i channel below space

pub returns-clause-guide : goal.returns-clause-guide
returns-clause-guide c = evaluation-shows
