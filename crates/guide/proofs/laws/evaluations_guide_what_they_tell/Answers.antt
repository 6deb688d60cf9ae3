use Rattle.guide.proofs.ShownWithMoreRoom.{evaluation-guides, evaluation-rates}
use Rattle.guide.proofs.laws.evaluations_guide_what_they_tell.Goals as goal

pub returns-clause-guide : goal.returns-clause-guide
returns-clause-guide c = λ net ds es states e channel laws other evaluated most agrees has. evaluation-guides net laws ds es other most states e evaluated agrees channel has

pub returns-clause-rate : goal.returns-clause-rate
returns-clause-rate c = λ net ds es states e x y laws other evaluated most agrees rate. evaluation-rates net laws ds es other most states e evaluated agrees x y rate
