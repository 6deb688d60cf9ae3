-- More room on one channel keeps a distribution one, on its grid, and adds to its storage.
use Rattle.std.proofs.Common.{◌≡◌, ℕ, zero, suc, ◌+◌, ◌*◌, ◌≤◌, ◌<◌, Option, None, Some, List, [], ◌∷◌, length, arith, mul-le-mul_right}
use Rattle.std.specs.Prelude.{slice_index_or}
use Rattle.sd_base.specs.declared.limits.TheConstants.{NET_TOKENS}
use Rattle.sd_base.specs.Net.{Channel, nowhere}
use Rattle.storage.specs.Distributions.{AtMost, CanHold, IsDistribution, capacity_at, enlarged, storage_of}
use Rattle.storage.specs.Steps.{IsOnGrid, step_of}

pub enlarged-distribution : (cs : List Channel) (ds : List (Option ℕ)) (c by : ℕ) → IsDistribution cs ds → IsDistribution cs (enlarged ds c by)
enlarged-distribution [] [] c by dist = tt
enlarged-distribution [] (d ∷ ds) c by dist = absurd dist
enlarged-distribution (x ∷ cs) [] c by dist = dist
enlarged-distribution (x ∷ cs) (None ∷ ds) zero by dist = dist
enlarged-distribution (x ∷ cs) (Some k ∷ ds) zero by dist = (dist.0, dist.1, omega (arith, dist.2), dist.3)
enlarged-distribution (x ∷ cs) (None ∷ ds) (suc c) by dist = (dist.0, dist.1, enlarged-distribution cs ds c by dist.2)
enlarged-distribution (x ∷ cs) (Some k ∷ ds) (suc c) by dist = (dist.0, dist.1, dist.2, enlarged-distribution cs ds c by dist.3)

pub most-same : (ds : List (Option ℕ)) → AtMost ds ds
most-same [] = tt
most-same (None ∷ ds) = most-same ds
most-same (Some k ∷ ds) = (omega arith, most-same ds)

pub enlarged-most : (ds : List (Option ℕ)) (c by : ℕ) → AtMost ds (enlarged ds c by)
enlarged-most [] c by = tt
enlarged-most (None ∷ ds) zero by = most-same ds
enlarged-most (Some k ∷ ds) zero by = (omega arith, most-same ds)
enlarged-most (None ∷ ds) (suc c) by = enlarged-most ds c by
enlarged-most (Some k ∷ ds) (suc c) by = (omega arith, enlarged-most ds c by)

pub enlarged-grid : (cs : List Channel) (ds : List (Option ℕ)) (c : ℕ) → IsOnGrid cs ds → IsOnGrid cs (enlarged ds c (step_of (slice_index_or cs c nowhere)))
enlarged-grid [] [] c grid = tt
enlarged-grid [] (d ∷ ds) c grid = absurd grid
enlarged-grid (x ∷ cs) [] c grid = tt
enlarged-grid (x ∷ cs) (None ∷ ds) zero grid = grid
enlarged-grid (x ∷ cs) (Some k ∷ ds) zero grid = ((grid.0.0 + 1, omega (arith, grid.0.1)), grid.1)
enlarged-grid (x ∷ cs) (None ∷ ds) (suc c) grid = enlarged-grid cs ds c grid
enlarged-grid (x ∷ cs) (Some k ∷ ds) (suc c) grid = (grid.0, enlarged-grid cs ds c grid.1)

pub enlarged-storage : (cs : List Channel) (ds : List (Option ℕ)) (c k by : ℕ) → ((i : ℕ) → i < length cs → 1 ≤ (slice_index_or cs i nowhere).size) → c < length cs → capacity_at ds c ≡ Some k → 1 ≤ by → storage_of cs ds < storage_of cs (enlarged ds c by)
enlarged-storage [] ds c k by sizes below at some = absurd (omega arith)
enlarged-storage (x ∷ cs) [] c k by sizes below at some = cc
enlarged-storage (x ∷ cs) (None ∷ ds) zero k by sizes below at some = cc
enlarged-storage (x ∷ cs) (Some a ∷ ds) zero k by sizes below at some =
    let size : 1 ≤ x.size = sizes 0 (omega arith) in
    let more : 1 * x.size ≤ by * x.size = mul-le-mul_right x.size some in
    omega arith
enlarged-storage (x ∷ cs) (None ∷ ds) (suc c) k by sizes below at some = enlarged-storage cs ds c k by (λ i less. sizes (suc i) (omega arith)) (omega arith) at some
enlarged-storage (x ∷ cs) (Some a ∷ ds) (suc c) k by sizes below at some = let later = enlarged-storage cs ds c k by (λ i less. sizes (suc i) (omega arith)) (omega arith) at some in omega (arith, later)

pub distribution-length : (cs : List Channel) (ds : List (Option ℕ)) → IsDistribution cs ds → length ds ≤ length cs
distribution-length [] [] is = omega arith
distribution-length [] (d ∷ ds) is = absurd is
distribution-length (c ∷ cs) [] is = omega arith
distribution-length (c ∷ cs) (None ∷ ds) is = let later = distribution-length cs ds is.2 in omega (arith, later)
distribution-length (c ∷ cs) (Some k ∷ ds) is = let later = distribution-length cs ds is.3 in omega (arith, later)

pub hold-small : (cs : List Channel) (ds : List (Option ℕ)) (c k : ℕ) → CanHold cs ds → capacity_at ds c ≡ Some k → k ≤ NET_TOKENS
hold-small [] [] c k can at = cc
hold-small [] (d ∷ ds) c k can at = absurd can
hold-small (x ∷ cs) [] c k can at = cc
hold-small (x ∷ cs) (None ∷ ds) zero k can at = cc
hold-small (x ∷ cs) (Some l ∷ ds) zero k can at = let same : l ≡ k = cc in omega (arith, can.2)
hold-small (x ∷ cs) (None ∷ ds) (suc c) k can at = hold-small cs ds c k can at
hold-small (x ∷ cs) (Some l ∷ ds) (suc c) k can at = hold-small cs ds c k can.3 at
