use Rattle.std.proofs.Common.{List, ◌∙◌, subst}
use Rattle.pareto_front.specs.declared.point.Point.{Point}
use Rattle.explore.specs.inside.Members.{IsBestOf}
use Rattle.explore.proofs.level.run_level.Goals as goal

pub returns-clause-answers : goal.returns-clause-answers
returns-clause-answers g c = (c.best_rate-best.result, subst (λ (ps : List Point). IsBestOf ps c.best_rate-best.result) c.points.ensures c.best_rate-best.ensures, c.in_ok-answers.ensures.answers)

pub returns-clause-order : goal.returns-clause-order
returns-clause-order g c = c.in_ok-answers.ensures.order ∙ c.fill.ensures.order
