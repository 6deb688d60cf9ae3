use Rattle.std.proofs.Common.{◌≤◌, subst}
use Rattle.scenario_rate.proofs.WalksGrowHeavy.{heavy}
use Rattle.scenario_rate.proofs.laws.files_grow.Goals as goal

pub returns : goal.returns
returns c = λ file graph is some. heavy file graph is (subst (λ n. 1 ≤ n) is.tokens some)
