-- Entries that fit at each place are a distribution.
use Rattle.std.proofs.Common.{ℕ, suc, ◌≤◌, ◌<◌, Option, None, Some, List, [], ◌∷◌, length, arith}
use Rattle.std.specs.Prelude.{slice_get, slice_index_or}
use Rattle.sd_base.specs.Net.{Channel, nowhere}
use Rattle.storage.specs.Distributions.{IsDistribution}
use Rattle.test_explore.specs.Fitting.{FitsAt}

pub fits-distribution : (cs : List Channel) (ds : List (Option ℕ)) → length ds ≤ length cs
    → ((i : ℕ) → i < length cs → FitsAt (slice_index_or cs i nowhere) (slice_get ds i)) → IsDistribution cs ds
fits-distribution [] [] few fits = tt
fits-distribution [] (d ∷ ds) few fits = absurd (omega (arith, few))
fits-distribution (c ∷ cs) [] few fits =
    let here = fits 0 (omega arith) in
    (here.0, here.1, fits-distribution cs [] (omega arith) (λ i below. fits (suc i) (omega arith)))
fits-distribution (c ∷ cs) (None ∷ ds) few fits =
    let here = fits 0 (omega arith) in
    (here.0, here.1, fits-distribution cs ds (omega (arith, few)) (λ i below. fits (suc i) (omega arith)))
fits-distribution (c ∷ cs) (Some k ∷ ds) few fits =
    let here = fits 0 (omega arith) in
    (here.0, here.1, here.2, fits-distribution cs ds (omega (arith, few)) (λ i below. fits (suc i) (omega arith)))
