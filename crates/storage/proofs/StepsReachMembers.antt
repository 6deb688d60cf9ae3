-- From a member of a closed list that a distribution is above, steps on shown channels lead to one that agrees with it on
-- all that it shows.
use Rattle.std.proofs.Common.{◌≡◌, ℕ, zero, suc, ◌+◌, ◌*◌, ◌≤◌, ◌<◌, ◌⊎◌, Option, None, Some, List, [], ◌∷◌, length, inl, inr, ⊎_elim, subst, sym, refl, ap, arith, mul-le-mul_right}
use Rattle.std.specs.Prelude.{slice_index, slice_index_or}
use Rattle.std.proofs.lemmas.Bool.{cases_lt}
use Rattle.sd_base.specs.Net.{Channel, nowhere}
use Rattle.storage.specs.Distributions.{capacity_at, AtMost, storage_of, enlarged}
use Rattle.storage.specs.Steps.{step_of, IsOnGrid}
use Rattle.storage.specs.ParetoPoints.{Rating}
use Rattle.storage.specs.ClosedLists.{Entry, entry_at, AgreesOn, IsClosedBy}

abbrev pub number_of : Option ℕ → ℕ
number_of None = 0
number_of (Some k) = k

pub record HasSteps (cs : List Channel) : Type 0 where
  pub step : (i : ℕ) → i < length cs → 1 ≤ step_of (slice_index_or cs i nowhere)
  pub size : (i : ℕ) → i < length cs → 1 ≤ (slice_index_or cs i nowhere).size

fewer : (c : Channel) (cs : List Channel) → HasSteps (c ∷ cs) → HasSteps cs
fewer c cs steps = record { step = λ i below. steps.step (suc i) (omega arith); size = λ i below. steps.size (suc i) (omega arith) }

pub most-trans : (ds es fs : List (Option ℕ)) → AtMost ds es → AtMost es fs → AtMost ds fs
most-trans [] [] fs one other = other
most-trans (None ∷ ds) (None ∷ es) (None ∷ fs) one other = most-trans ds es fs one other
most-trans (Some a ∷ ds) (Some b ∷ es) (Some c ∷ fs) one other = (omega (arith, one.0, other.0), most-trans ds es fs one.1 other.1)
most-trans (None ∷ ds) (None ∷ es) fs one other = absurd other
most-trans (Some a ∷ ds) (Some b ∷ es) fs one other = absurd other
most-trans ds es fs one other = absurd one

pub storage-le : (cs : List Channel) (ds es : List (Option ℕ)) → AtMost ds es → storage_of cs ds ≤ storage_of cs es
storage-le [] ds es most = omega arith
storage-le (c ∷ cs) [] [] most = omega arith
storage-le (c ∷ cs) (None ∷ ds) (None ∷ es) most = storage-le cs ds es most
storage-le (c ∷ cs) (Some a ∷ ds) (Some b ∷ es) most = let scaled : a * c.size ≤ b * c.size = mul-le-mul_right c.size most.0 in omega (arith, storage-le cs ds es most.1)
storage-le (c ∷ cs) ds es most = absurd most

agree : (ds es : List (Option ℕ)) (c : ℕ) → AtMost ds es → number_of (capacity_at es c) ≤ number_of (capacity_at ds c) → capacity_at ds c ≡ capacity_at es c
agree [] [] c most high = refl
agree (None ∷ ds) (None ∷ es) zero most high = refl
agree (None ∷ ds) (None ∷ es) (suc c) most high = agree ds es c most high
agree (Some a ∷ ds) (Some b ∷ es) zero most high = let same : a ≡ b = omega (arith, most.0) in ap Some same
agree (Some a ∷ ds) (Some b ∷ es) (suc c) most high = agree ds es c most.1 high
agree ds es c most high = absurd most

step-fits : (t s k l : ℕ) → t + k * s < t + l * s → t + k * s + s ≤ t + l * s
step-fits t s k l less = ⊎_elim (λ (more : k < l). let up : (k + 1) * s ≤ l * s = mul-le-mul_right s (omega arith) in omega arith) (λ (no_more : l ≤ k). absurd (let down : l * s ≤ k * s = mul-le-mul_right s no_more in omega arith)) (cases_lt k l)

abbrev StepsUp : List Channel → List (Option ℕ) → List (Option ℕ) → ℕ → Type 0
StepsUp cs ds es c = AtMost (enlarged ds c (step_of (slice_index_or cs c nowhere))) es × (storage_of cs ds < storage_of cs (enlarged ds c (step_of (slice_index_or cs c nowhere))))

pub step-up : (cs : List Channel) (ds es : List (Option ℕ)) (c : ℕ) → HasSteps cs → IsOnGrid cs ds → IsOnGrid cs es → AtMost ds es → number_of (capacity_at ds c) < number_of (capacity_at es c) → StepsUp cs ds es c
step-up [] [] [] c steps low high most less = absurd (omega arith)
step-up [] [] (e ∷ es) c steps low high most less = absurd high
step-up [] (d ∷ ds) es c steps low high most less = absurd low
step-up (x ∷ cs) [] [] c steps low high most less = absurd (omega arith)
step-up (x ∷ cs) (None ∷ ds) (None ∷ es) zero steps low high most less = absurd (omega arith)
step-up (x ∷ cs) (None ∷ ds) (None ∷ es) (suc c) steps low high most less = step-up cs ds es c (fewer x cs steps) low high most less
step-up (x ∷ cs) (Some a ∷ ds) (Some b ∷ es) zero steps low high most less = let at : x.tokens + low.0.0 * step_of x < x.tokens + high.0.0 * step_of x = omega (arith, low.0.1, high.0.1, less) in let fits : x.tokens + low.0.0 * step_of x + step_of x ≤ x.tokens + high.0.0 * step_of x = step-fits x.tokens (step_of x) low.0.0 high.0.0 at in let some : 1 ≤ step_of x = steps.step 0 (omega arith) in let sized : 1 ≤ x.size = steps.size 0 (omega arith) in let grows : 1 * x.size ≤ step_of x * x.size = mul-le-mul_right x.size some in ((omega (arith, low.0.1, high.0.1, fits), most.1), omega (arith, grows, sized))
step-up (x ∷ cs) (Some a ∷ ds) (Some b ∷ es) (suc c) steps low high most less = let rest : StepsUp cs ds es c = step-up cs ds es c (fewer x cs steps) low.1 high.1 most.1 less in ((most.0, rest.0), omega (arith, rest.1))
step-up (x ∷ cs) ds es c steps low high most less = absurd most

low_or_none : (f g : ℕ → ℕ) (xs : List ℕ) → ((j : ℕ) × (j < length xs) × (f (slice_index xs j) < g (slice_index xs j))) ⊎ ((j : ℕ) → j < length xs → g (slice_index xs j) ≤ f (slice_index xs j))
low_or_none f g [] = inr (λ j below. absurd (omega arith))
low_or_none f g (x ∷ xs) = at (cases_lt (f x) (g x)) (low_or_none f g xs)
  where
    at : (f x < g x) ⊎ (g x ≤ f x) → ((j : ℕ) × (j < length xs) × (f (slice_index xs j) < g (slice_index xs j))) ⊎ ((j : ℕ) → j < length xs → g (slice_index xs j) ≤ f (slice_index xs j)) → ((j : ℕ) × (j < length (x ∷ xs)) × (f (slice_index (x ∷ xs) j) < g (slice_index (x ∷ xs) j))) ⊎ ((j : ℕ) → j < length (x ∷ xs) → g (slice_index (x ∷ xs) j) ≤ f (slice_index (x ∷ xs) j))
    at (inl less) rest = inl (0, omega arith, less)
    at (inr no_less) (inl found) = inl (suc found.0, omega (arith, found.1), found.2)
    at (inr no_less) (inr none) = inr all
      where
        all : (j : ℕ) → j < length (x ∷ xs) → g (slice_index (x ∷ xs) j) ≤ f (slice_index (x ∷ xs) j)
        all zero below = no_less
        all (suc j) below = none j (omega arith)

pub record Meets (es : List Entry) (ds : List (Option ℕ)) : Type 0 where
  pub place : ℕ
  pub below : place < length es
  pub most : AtMost (entry_at es place).capacities ds
  pub agrees : AgreesOn (entry_at es place).shown (entry_at es place).capacities ds

module _ (cs : List Channel) (rating : Rating) (limit : ℕ) (es : List Entry) (closed : IsClosedBy cs rating limit es) (steps : HasSteps cs) (ds : List (Option ℕ)) (grid : IsOnGrid cs ds) (within : storage_of cs ds ≤ limit) where
  pub climb : (n i : ℕ) → i < length es → AtMost (entry_at es i).capacities ds → storage_of cs ds < storage_of cs (entry_at es i).capacities + n → Meets es ds
  climb zero i below most few = absurd (omega (arith, storage-le cs (entry_at es i).capacities ds most))
  climb (suc n) i below most few = at (λ k there under more. climb n k there under (omega arith)) (low_or_none (λ (c : ℕ). number_of (capacity_at (entry_at es i).capacities c)) (λ (c : ℕ). number_of (capacity_at ds c)) (entry_at es i).shown)
    where
      at : ((k : ℕ) → k < length es → AtMost (entry_at es k).capacities ds → storage_of cs (entry_at es i).capacities < storage_of cs (entry_at es k).capacities → Meets es ds) → ((j : ℕ) × (j < length (entry_at es i).shown) × (number_of (capacity_at (entry_at es i).capacities (slice_index (entry_at es i).shown j)) < number_of (capacity_at ds (slice_index (entry_at es i).shown j)))) ⊎ ((j : ℕ) → j < length (entry_at es i).shown → number_of (capacity_at ds (slice_index (entry_at es i).shown j)) ≤ number_of (capacity_at (entry_at es i).capacities (slice_index (entry_at es i).shown j))) → Meets es ds
      at next (inr none) = record {
        place = i;
        below = below;
        most = most;
        agrees = λ j there. agree (entry_at es i).capacities ds (slice_index (entry_at es i).shown j) most (none j there);
      }
      at next (inl found) = let moved : StepsUp cs (entry_at es i).capacities ds (slice_index (entry_at es i).shown found.0) = step-up cs (entry_at es i).capacities ds (slice_index (entry_at es i).shown found.0) steps (closed.grid i below) grid most found.2 in let small : storage_of cs (enlarged (entry_at es i).capacities (slice_index (entry_at es i).shown found.0) (step_of (slice_index_or cs (slice_index (entry_at es i).shown found.0) nowhere))) ≤ limit = omega (arith, storage-le cs _ ds moved.0) in let has = closed.next i found.0 below found.1 small in let there : AtMost (entry_at es has.0).capacities ds = subst (λ (x : List (Option ℕ)). AtMost x ds) (sym has.2) moved.0 in
          let more : storage_of cs (entry_at es i).capacities < storage_of cs (entry_at es has.0).capacities = subst (λ (x : List (Option ℕ)). storage_of cs (entry_at es i).capacities < storage_of cs x) (sym has.2) moved.1 in next has.0 has.1 there more
