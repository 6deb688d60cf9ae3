-- Capacities are at most others where those of each place fit.
use Rattle.std.proofs.Common.{◌≡◌, ℕ, zero, suc, ◌<◌, Option, None, Some, List, [], ◌∷◌, length, ap, refl, arith}
use Rattle.storage.specs.Distributions.{AtMost, capacity_at}
use Rattle.scenario_storage.specs.inside.Blocked.{FitsIn}

pub most-by : (ds es : List (Option ℕ)) → length ds ≡ length es → ((j : ℕ) → j < length ds → FitsIn (capacity_at ds j) (capacity_at es j)) → AtMost ds es
most-by [] [] long fit = tt
most-by [] (e ∷ es) long fit = absurd (omega (arith, long))
most-by (d ∷ ds) [] long fit = absurd (omega (arith, long))
most-by (None ∷ ds) (None ∷ es) long fit = most-by ds es (omega (arith, long)) (λ j below. fit (suc j) (omega (arith, below)))
most-by (None ∷ ds) (Some b ∷ es) long fit = absurd (fit 0 (omega arith))
most-by (Some a ∷ ds) (None ∷ es) long fit = absurd (fit 0 (omega arith))
most-by (Some a ∷ ds) (Some b ∷ es) long fit = (fit 0 (omega arith), most-by ds es (omega (arith, long)) (λ j below. fit (suc j) (omega (arith, below))))

pub most-long : (ds es : List (Option ℕ)) → AtMost ds es → length ds ≡ length es
most-long [] [] most = refl
most-long [] (e ∷ es) most = absurd most
most-long (None ∷ ds) [] most = absurd most
most-long (Some a ∷ ds) [] most = absurd most
most-long (None ∷ ds) (None ∷ es) most = ap suc (most-long ds es most)
most-long (None ∷ ds) (Some b ∷ es) most = absurd most
most-long (Some a ∷ ds) (None ∷ es) most = absurd most
most-long (Some a ∷ ds) (Some b ∷ es) most = ap suc (most-long ds es most.1)

pub most-fits : (ds es : List (Option ℕ)) → AtMost ds es → (j : ℕ) → j < length ds → FitsIn (capacity_at ds j) (capacity_at es j)
most-fits [] es most j below = absurd (omega (arith, below))
most-fits (None ∷ ds) [] most j below = absurd most
most-fits (Some a ∷ ds) [] most j below = absurd most
most-fits (None ∷ ds) (None ∷ es) most zero below = tt
most-fits (None ∷ ds) (None ∷ es) most (suc j) below = most-fits ds es most j (omega (arith, below))
most-fits (None ∷ ds) (Some b ∷ es) most j below = absurd most
most-fits (Some a ∷ ds) (None ∷ es) most j below = absurd most
most-fits (Some a ∷ ds) (Some b ∷ es) most zero below = most.0
most-fits (Some a ∷ ds) (Some b ∷ es) most (suc j) below = most-fits ds es most.1 j (omega (arith, below))
