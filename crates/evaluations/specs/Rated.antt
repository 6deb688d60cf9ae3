-- What is kept of an evaluation.
use Rattle.std.specs.Prelude.{◌≡◌, ℕ, ◌*◌, ◌≤◌, MatchOption, Option, None, Result, Ok, Err}
use Rattle.sd_base.specs.declared.numbers.Fraction.{Fraction}
use Rattle.firing.specs.declared.table.LoopTable.{LoopTable}
use Rattle.lasso.specs.RunError.{RunError}
use Rattle.guide.specs.declared.rating.Evaluation.{Evaluation}
use Rattle.guide.specs.declared.rating.Outcome.{Outcome}
use Rattle.guide.specs.declared.rating.Outcome.TheVariants.{Live, Blocked}
use Rattle.evaluations.specs.declared.shown.Shown.{Shown}
use Rattle.evaluations.specs.declared.shown.Shown.TheVariants as shows
use Rattle.evaluations.specs.declared.rated.Rated.{Rated}

-- what an outcome shows
abbrev pub shown_by : Outcome → Shown
shown_by (Live table cycle) = shows.Cycle cycle
shown_by (Blocked counts lacks) = shows.Blocked counts

-- the loop is kept, or its rate is no more than the best
abbrev pub KeepsTable : Fraction → Fraction → Outcome → Option LoopTable → Type 0
KeepsTable best rate (Live table cycle) kept = MatchOption kept (rate.num * best.den ≤ best.num * rate.den) (λ (t : LoopTable). t ≡ table)
KeepsTable best rate (Blocked counts lacks) kept = kept ≡ None

-- the rate, the channels and what shows both are those of the evaluation
pub record IsRated (best : Fraction) (e : Evaluation) (r : Rated) : Type 0 where
  pub rate : r.rate ≡ e.rate
  pub enlarge : r.enlarge ≡ e.enlarge
  pub shown : r.shown ≡ shown_by e.outcome
  pub table : KeepsTable best e.rate e.outcome r.table

-- what is kept of an answer is of its evaluation, or is its cause
abbrev pub IsRatedAnswer : Fraction → Result Evaluation RunError → Result Rated RunError → Type 0
IsRatedAnswer best (Ok e) (Ok r) = IsRated best e r
IsRatedAnswer best (Err x) (Err y) = x ≡ y
IsRatedAnswer best answer kept = ⊥
