-- A task that was fresh is done when it has run.
use Rattle.std.proofs.Common.{◌≡◌, ℕ, ◌+◌, ◌≤◌, Option, List, [], ◌∷◌, ◌++◌, Result, Ok, Err, refl, sym, ap, ◌∙◌, subst, arith}
use Rattle.std.specs.Prelude.{IfErr, IfOk}
use Rattle.sd_base.specs.declared.limits.TheConstants.{LEAST_STATES, STATES}
use Rattle.sd_base.specs.Net.{Net}
use Rattle.sd_base.specs.Counter.{Tally}
use Rattle.sd_base.specs.declared.numbers.Fraction.{Fraction}
use Rattle.firing.specs.declared.wiring.Wiring.{Wiring}
use Rattle.lasso.specs.RunError.{RunError}
use Rattle.storage.specs.declared.distribution.Distribution.{Distribution}
use Rattle.guide.specs.declared.rating.Evaluation.{Evaluation}
use Rattle.guide.specs.declared.rating.Outcome.{Outcome}
use Rattle.guide.specs.declared.rating.Outcome.TheVariants as outcomes
use Rattle.guide.specs.Evaluations.{IsEvaluable, IsEvaluated, IsRefused, loops_run}
use Rattle.evaluations.specs.declared.evaluating.Answered.{Answered}
use Rattle.evaluations.specs.declared.rated.Rated.{Rated}
use Rattle.evaluations.specs.ShownCycles.{shows_cycle}
use Rattle.evaluations.specs.Rated.{IsRated, IsRatedAnswer, shown_by}
use Rattle.evaluations.specs.Evaluating.{IsEvaluation, least_loops, most_loops, sum_of}
use Rattle.evaluations.specs.inside.Tasks.{HasRun, IsKeptAnswer, IsAnswered, IsDone, IsFresh, IsReady, IsStartable}

pub ready-from : (net own : Net) (wiring : Wiring) (states : ℕ) (best : Fraction) (capacities : Distribution) (counts : List ℕ) (wanted : ℕ) (known : Fraction) (steps : Tally) → IsFresh net own wiring states best capacities counts wanted known steps → LEAST_STATES ≤ states → states ≤ STATES → IsReady own wiring capacities counts wanted
ready-from net own wiring states best capacities counts wanted known steps fresh some few = record {
  start = subst (λ (n : Net). IsStartable n wiring capacities counts) (sym fresh.net_is) fresh.start;
  some = omega (arith, fresh.states_are, some);
  few = omega (arith, fresh.states_are, few);
}

pub done-from : (net own : Net) (wiring : Wiring) (counts : List ℕ) (states wanted : ℕ) (best known : Fraction) (was : Distribution) (before : Tally) (now : Distribution) (after : Tally) (answer : Option (Result Rated RunError)) → IsFresh net own wiring states best was counts wanted known before → HasRun own was wanted known before now after answer → IsDone net states best now after answer
done-from net own wiring counts states wanted best known was before now after answer fresh ran =
    let a = subst (λ (n : Net). IsAnswered n was.capacities wanted known before.count after.count answer) fresh.net_is ran.answered in
    let b = subst (λ (s : ℕ). IsAnswered net was.capacities s known before.count after.count answer) fresh.states_are a in
    let f = subst (λ (x : Fraction). IsAnswered net was.capacities states x before.count after.count answer) fresh.best_is b in
    let d = subst (λ (k : ℕ). IsAnswered net was.capacities states best k after.count answer) fresh.count f in
    record {
      share = ran.share ∙ fresh.share;
      fits = subst (λ (x : Distribution). IsEvaluable net x.capacities) (sym ran.same) fresh.start.fits;
      answered = subst (λ (x : Distribution). IsAnswered net x.capacities states best 0 after.count answer) (sym ran.same) d;
    }

-- what an answer says of its distribution, and of the loops that were counted

pub answer-is : (net : Net) (capacities : Distribution) (states : ℕ) (best : Fraction) (before after : ℕ) (answer : Result Rated RunError) → IsKeptAnswer net capacities.capacities states best before after answer → IsEvaluation net states best capacities answer
answer-is net capacities states best before after (Ok r) (e, is, kept, count) = (e, is, kept)
answer-is net capacities states best before after (Err error) is = is.0

loops-shown : (outcome : Outcome) → shows_cycle (shown_by outcome) ≡ loops_run outcome
loops-shown (outcomes.Live table cycle) = refl
loops-shown (outcomes.Blocked counts lacks) = refl

runs-shown : (best : Fraction) (e : Evaluation) (r : Rated) → IsRated best e r → shows_cycle r.shown ≡ loops_run e.outcome
runs-shown best e r kept = ap shows_cycle kept.shown ∙ loops-shown e.outcome

pub counts-least : (net : Net) (ds : List (Option ℕ)) (states : ℕ) (best : Fraction) (n : ℕ) (answer : Result Rated RunError) → IsKeptAnswer net ds states best 0 n answer → least_loops answer ≤ n
counts-least net ds states best n (Ok r) (e, is, kept, count) = omega (arith, count, runs-shown best e r kept)
counts-least net ds states best n (Err error) is = omega arith

pub counts-most : (net : Net) (ds : List (Option ℕ)) (states : ℕ) (best : Fraction) (n : ℕ) (answer : Result Rated RunError) → IsKeptAnswer net ds states best 0 n answer → n ≤ most_loops answer
counts-most net ds states best n (Ok r) (e, is, kept, count) = omega (arith, count, runs-shown best e r kept)
counts-most net ds states best n (Err error) is = omega (arith, is.1)

-- what is kept of an answer is what the task answers
pub run-answer : (net : Net) (ds : List (Option ℕ)) (states : ℕ) (best : Fraction) (before after : ℕ) (answer : Result Evaluation RunError) (kept : Result Rated RunError) → IsRatedAnswer best answer kept → IfOk answer (IsEvaluated net ds states) → IfErr answer (IsRefused net ds states) → IfOk answer (λ (e : Evaluation). after ≡ before + loops_run e.outcome) → after ≤ before + 1 → IsKeptAnswer net ds states best before after kept
run-answer net ds states best before after (Ok e) (Ok r) is evaluated refused count most = (e, evaluated, is, count)
run-answer net ds states best before after (Ok e) (Err y) is evaluated refused count most = absurd is
run-answer net ds states best before after (Err x) (Ok r) is evaluated refused count most = absurd is
run-answer net ds states best before after (Err x) (Err y) is evaluated refused count most = (subst (IsRefused net ds states) is refused, most)

pub sum-more : (f : Result Rated RunError → ℕ) (xs : List Answered) (x : Answered) → sum_of f (xs ++ x ∷ []) ≡ sum_of f xs + f x.answer
sum-more f [] x = omega arith
sum-more f (y ∷ ys) x = let later = sum-more f ys x in omega (arith, later)
