use Rattle.walks.proofs.StepsLessenLack.{lacking}
use Rattle.walks.proofs.WalkEnds.{IsUnderWay}
use Rattle.walks.proofs.walking.walk.Given as goal

abbrev pub invariant-steps : goal.invariant-steps
invariant-steps l = IsUnderWay l.lattice.axes l.tellings l.goal l.capacities.items l.by

abbrev pub decreases-steps : goal.decreases-steps
decreases-steps l = lacking l.goal l.capacities.items
