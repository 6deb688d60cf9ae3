use Rattle.lasso.proofs.EventsGoOn.{many-passes, passes-many}
use Rattle.lasso.proofs.laws.starts_are_counted_to_the_first_repeat.Goals as goal

pub returns : goal.returns
returns c = λ net states laws fed live some. (many-passes net laws fed live states some, passes-many net laws fed live states)
