-- What holds of all jobs after each has run, and which numbers have entered once two parts of a list have run.
use Rattle.std.proofs.Common.{◌≡◌, ℕ, ◌+◌, ◌-◌, ◌<◌, ◌≤◌, ◌⊎◌, inl, inr, List, length, subst, arith}
use Rattle.std.specs.Prelude.{All, slice_index_or}
use Rattle.std.proofs.lemmas.Bool.{cases_lt}
use Rattle.fanout.specs.JobRuns.{EachEntered, EachRan}
use Rattle.fanout.specs.Parts.{PartEntered}

-- what each job comes to by a run, all jobs come to
pub all-ran : {A : Type 0} (R : A → A → Type 0) (P Q : A → Type 0) → ((x y : A) → P x → R x y → Q y) → (before after : List A) → EachRan R before after → All P before → All Q after
all-ran R P Q step before after ran all = λ k d below. step (slice_index_or before k d) (slice_index_or after k d) (all k d (omega (arith, ran.many))) (ran.each k d (omega (arith, ran.many)))

-- a part that begins at the first job is the whole list
pub from-first : {A : Type 0} (entered : ℕ → Type 0) (jobs : List A) → PartEntered entered 0 jobs → EachEntered entered jobs
from-first entered jobs part = λ k below. let place : 0 + k ≡ k = omega arith in subst entered place (part k below)

-- two parts, of which the second begins where the first ends
pub joined-entered : {A : Type 0} (entered : ℕ → Type 0) (first half : ℕ) (jobs front back : List A) → length front ≡ half → length back + half ≡ length jobs
    → PartEntered entered first front → PartEntered entered (first + half) back → PartEntered entered first jobs
joined-entered entered first half jobs front back fronts backs in_front in_back = λ k below. at k below (cases_lt k half)
  where
    at : (k : ℕ) → k < length jobs → (k < half) ⊎ (half ≤ k) → entered (first + k)
    at k below (inl here) = in_front k (omega (arith, here, fronts))
    at k below (inr past) =
        let place : first + half + (k - half) ≡ first + k = omega (arith, past) in
        subst entered place (in_back (k - half) (omega (arith, past, below, backs)))
