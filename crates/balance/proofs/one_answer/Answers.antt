use Rattle.balance.proofs.OneAnswer.{has_one_answer}
use Rattle.balance.proofs.one_answer.Goals as goal

pub returns : goal.returns
returns c = has_one_answer
