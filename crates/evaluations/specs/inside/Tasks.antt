-- What the evaluation of one distribution begins from and comes to.
use Rattle.std.specs.Prelude.{◌≡◌, ℕ, ◌+◌, ◌≤◌, true, Option, None, Some, List, Result, Ok, Err}
use Rattle.sd_base.specs.declared.limits.TheConstants.{LEAST_STATES, STATES}
use Rattle.sd_base.specs.declared.numbers.Fraction.{Fraction}
use Rattle.sd_base.specs.Net.{Net}
use Rattle.sd_base.specs.Counter.{Tally}
use Rattle.lasso.specs.RunError.{RunError}
use Rattle.firing.specs.Wiring.{IsWiringOf}
use Rattle.firing.specs.declared.wiring.Wiring.{Wiring}
use Rattle.liveness.specs.RoundAnswers.{AreReachedCounts}
use Rattle.storage.specs.BoundedNets.{bound}
use Rattle.storage.specs.declared.distribution.Distribution.{Distribution}
use Rattle.guide.specs.declared.rating.Evaluation.{Evaluation}
use Rattle.guide.specs.Evaluations.{IsEvaluable, IsEvaluated, IsRefused, loops_run}
use Rattle.evaluations.specs.declared.rated.Rated.{Rated}
use Rattle.evaluations.specs.Rated.{IsRated}

-- the answer is what is kept of that of `evaluate`, and the counter rose as it says
abbrev pub IsKeptAnswer : Net → List (Option ℕ) → ℕ → Fraction → ℕ → ℕ → Result Rated RunError → Type 0
IsKeptAnswer net ds states best before after (Ok r) = (e : Evaluation) × IsEvaluated net ds states e × IsRated best e r × (after ≡ before + loops_run e.outcome)
IsKeptAnswer net ds states best before after (Err error) = IsRefused net ds states error × (after ≤ before + 1)

abbrev pub IsAnswered : Net → List (Option ℕ) → ℕ → Fraction → ℕ → ℕ → Option (Result Rated RunError) → Type 0
IsAnswered net ds states best before after None = ⊥
IsAnswered net ds states best before after (Some answer) = IsKeptAnswer net ds states best before after answer

-- a task keeps its distribution and has its answer
pub record HasRun (net : Net) (capacities : Distribution) (states : ℕ) (best : Fraction) (before : Tally) (now : Distribution) (after : Tally) (answer : Option (Result Rated RunError)) : Type 0 where
  pub same : now ≡ capacities
  pub share : after.share ≡ before.share
  pub answered : IsAnswered net capacities.capacities states best before.count after.count answer

-- the evaluation of a distribution can begin with this wiring and these counts
pub record IsStartable (net : Net) (wiring : Wiring) (capacities : Distribution) (counts : List ℕ) : Type 0 where
  pub fits : IsEvaluable net capacities.capacities
  pub wired : IsWiringOf (bound net capacities.capacities) wiring
  pub reached : AreReachedCounts (bound net capacities.capacities) counts

-- a task can run
pub record IsReady (net : Net) (wiring : Wiring) (capacities : Distribution) (counts : List ℕ) (states : ℕ) : Type 0 where
  pub start : IsStartable net wiring capacities counts
  pub some : LEAST_STATES ≤ states
  pub few : states ≤ STATES

-- a task for the net, whose share hasn't counted yet
pub record IsFresh (net own : Net) (wiring : Wiring) (states : ℕ) (best : Fraction) (capacities : Distribution) (counts : List ℕ) (wanted : ℕ) (known : Fraction) (steps : Tally) : Type 0 where
  pub net_is : own ≡ net
  pub states_are : wanted ≡ states
  pub best_is : known ≡ best
  pub start : IsStartable net wiring capacities counts
  pub share : steps.share ≡ true
  pub count : steps.count ≡ 0

-- a task that has its answer
pub record IsDone (net : Net) (states : ℕ) (best : Fraction) (capacities : Distribution) (steps : Tally) (answer : Option (Result Rated RunError)) : Type 0 where
  pub share : steps.share ≡ true
  pub fits : IsEvaluable net capacities.capacities
  pub answered : IsAnswered net capacities.capacities states best 0 steps.count answer
