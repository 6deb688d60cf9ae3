use Rattle.token_matrix.proofs.OneMatrix.{one_matrix}
use Rattle.token_matrix.proofs.laws.matrices_are_one.Goals as goal

pub returns : goal.returns
returns c = one_matrix
