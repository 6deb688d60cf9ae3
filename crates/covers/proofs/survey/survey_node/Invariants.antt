use Rattle.std.proofs.Common.{take}
use Rattle.covers.specs.inside.Surveys.{AreTolls}
use Rattle.covers.proofs.survey.survey_node.Given as goal

abbrev pub invariant-loop-place : goal.invariant-loop-place
invariant-loop-place l = AreTolls l.lattice l.bounds l.best l.node (take l.place-index l.acting) l.tolls.items
