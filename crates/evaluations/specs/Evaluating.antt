-- What the evaluation of distributions side by side comes to.
use Rattle.std.specs.Prelude.{ℕ, ◌+◌, List, [], ◌∷◌, Result, Ok, Err}
use Rattle.sd_base.specs.declared.numbers.Fraction.{Fraction}
use Rattle.sd_base.specs.Net.{Net}
use Rattle.lasso.specs.RunError.{RunError}
use Rattle.liveness.specs.RoundAnswers.{AreReachedCounts}
use Rattle.storage.specs.BoundedNets.{bound}
use Rattle.storage.specs.declared.distribution.Distribution.{Distribution}
use Rattle.guide.specs.declared.rating.Evaluation.{Evaluation}
use Rattle.guide.specs.Evaluations.{IsEvaluable, IsEvaluated, IsRefused}
use Rattle.evaluations.specs.declared.evaluating.Answered.{Answered}
use Rattle.evaluations.specs.declared.rated.Rated.{Rated}
use Rattle.evaluations.specs.Rated.{IsRated}
use Rattle.evaluations.specs.ShownCycles.{shows_cycle}

-- the distribution can be evaluated, and the counts are reached in the net that it bounds
pub record IsVisitable (net : Net) (capacities : Distribution) (counts : List ℕ) : Type 0 where
  pub fits : IsEvaluable net capacities.capacities
  pub reached : AreReachedCounts (bound net capacities.capacities) counts

-- what is kept of the answer of `evaluate` on a distribution
abbrev pub IsEvaluation : Net → ℕ → Fraction → Distribution → Result Rated RunError → Type 0
IsEvaluation net states best capacities (Ok r) = (e : Evaluation) × IsEvaluated net capacities.capacities states e × IsRated best e r
IsEvaluation net states best capacities (Err error) = IsRefused net capacities.capacities states error

-- the loops that were run for an answer at least
abbrev pub least_loops : Result Rated RunError → ℕ
least_loops (Ok r) = shows_cycle r.shown
least_loops (Err error) = 0

-- and at most
abbrev pub most_loops : Result Rated RunError → ℕ
most_loops (Ok r) = shows_cycle r.shown
most_loops (Err error) = 1

-- the sums over answers
abbrev pub sum_of : (Result Rated RunError → ℕ) → List Answered → ℕ
sum_of f [] = 0
sum_of f (a ∷ rest) = f a.answer + sum_of f rest
