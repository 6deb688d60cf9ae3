use Rattle.guide.proofs.BoundsBelow.{bounded-below}
use Rattle.guide.proofs.laws.evaluations_bound_what_they_cover.Goals as goal

pub returns : goal.returns
returns c = λ net ds es states e x y laws one other evaluated covers rate. bounded-below net laws ds es one other e.rate e.enlarge evaluated.bounds covers x y rate
