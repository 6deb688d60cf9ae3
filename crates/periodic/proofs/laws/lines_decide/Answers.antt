use Rattle.periodic.proofs.RightLinesDecide.{lines_decide}
use Rattle.periodic.proofs.laws.lines_decide.Goals as goal

pub returns : goal.returns
returns c = lines_decide
