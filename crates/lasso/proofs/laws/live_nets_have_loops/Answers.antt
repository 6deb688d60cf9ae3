use Rattle.lasso.proofs.LoopsClose.{loop-closes}
use Rattle.lasso.proofs.laws.live_nets_have_loops.Goals as goal

pub returns : goal.returns
returns c = λ net laws fed strong live. loop-closes net laws fed strong live
