use Rattle.token_matrix.proofs.GraphWays.{its-way, no-longer}
use Rattle.token_matrix.proofs.laws.entries_are_longest_ways.Goals as goal

pub returns : goal.returns
returns c = λ shared g gamma rows p q carries is below here. (its-way shared g gamma carries rows is p q below here, no-longer shared g gamma carries rows is p q below here)
