use Rattle.token_matrix.proofs.SomeToken.{some-token}
use Rattle.token_matrix.proofs.laws.matrices_have_a_row.Goals as goal

pub returns : goal.returns
returns c = λ shared g gamma m carries is. some-token shared g gamma carries m is
