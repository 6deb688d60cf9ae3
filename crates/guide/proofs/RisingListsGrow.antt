-- A rising list stays so with a greater number at its end.
use Rattle.std.proofs.Common.{◌≡◌, ℕ, zero, suc, ◌<◌, List, [], ◌∷◌, ◌++◌, ⊎_elim, arith}
use Rattle.std.specs.Prelude.{Contains, slice_index}
use Rattle.std.proofs.lemmas.List.Elements.{Contains-get_or, Contains-push_cases}
use Rattle.critical.specs.Spaces.{IsRising}
use Rattle.critical.proofs.ListedSpacesRise.{number-place}
use Rattle.sd_base.proofs.ContainedHavePlaces.{contains-here, contains-later}

rising-rest : (z : ℕ) (xs : List ℕ) → IsRising (z ∷ xs) → IsRising xs
rising-rest z xs rising j k less below = rising (suc j) (suc k) (omega arith) (omega arith)

pub rising-more : (xs : List ℕ) (x : ℕ) → IsRising xs → ((y : ℕ) → Contains xs y → y < x) → IsRising (xs ++ x ∷ [])
rising-more [] x rising low j k less below = absurd (omega arith)
rising-more (z ∷ xs) x rising low j zero less below = absurd (omega arith)
rising-more (z ∷ xs) x rising low zero (suc k) less below =
    ⊎_elim
    (λ (h : Contains xs (slice_index (xs ++ x ∷ []) k)).
    let at = number-place xs (slice_index (xs ++ x ∷ []) k) h in
    let r : slice_index (z ∷ xs) zero < slice_index (z ∷ xs) (suc at.0) = rising zero (suc at.0) (omega arith) (omega (arith, at.1)) in omega (arith, r, at.2))
    (λ (h : x ≡ slice_index (xs ++ x ∷ []) k). let r : z < x = low z (contains-here z xs) in omega (arith, h, r))
    (Contains-push_cases xs x (slice_index (xs ++ x ∷ []) k) (Contains-get_or (xs ++ x ∷ []) k 0 (omega arith)))
rising-more (z ∷ xs) x rising low (suc j) (suc k) less below = rising-more xs x (rising-rest z xs rising) (λ y h. low y (contains-later z xs y h)) j k (omega arith) (omega arith)
