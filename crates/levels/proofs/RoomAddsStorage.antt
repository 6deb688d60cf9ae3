-- A step more room on one channel adds its storage to the distribution's.
use Rattle.std.proofs.Common.{◌≡◌, ℕ, zero, suc, ◌+◌, ◌*◌, ◌≤◌, ◌<◌, Option, None, Some, List, [], ◌∷◌, length, refl, ap, arith, mul-le-mul_left}
use Rattle.std.specs.Prelude.{slice_index_or, slice_set}
use Rattle.sd_base.specs.Net.{Channel, nowhere}
use Rattle.storage.specs.Distributions.{enlarged, storage_of}

pub enlarged-none : (ds : List (Option ℕ)) (c by : ℕ) → slice_index_or ds c None ≡ None → enlarged ds c by ≡ ds
enlarged-none [] c by none = refl
enlarged-none (None ∷ ds) zero by none = refl
enlarged-none (Some k ∷ ds) zero by none = cc
enlarged-none (d ∷ ds) (suc c) by none = ap (λ (es : List (Option ℕ)). d ∷ es) (enlarged-none ds c by none)

pub enlarged-some : (cs : List Channel) (ds : List (Option ℕ)) (c k by : ℕ) → c < length cs → slice_index_or ds c None ≡ Some k →
    storage_of cs (enlarged ds c by) ≡ storage_of cs ds + by * (slice_index_or cs c nowhere).size
enlarged-some cs [] c k by below at = cc
enlarged-some [] (d ∷ ds) c k by below at = absurd (omega arith)
enlarged-some (x ∷ cs) (None ∷ ds) zero k by below at = cc
enlarged-some (x ∷ cs) (Some a ∷ ds) zero k by below at = omega arith
enlarged-some (x ∷ cs) (None ∷ ds) (suc c) k by below at = enlarged-some cs ds c k by (omega arith) at
enlarged-some (x ∷ cs) (Some a ∷ ds) (suc c) k by below at = let later = enlarged-some cs ds c k by (omega arith) at in omega (arith, later)

-- a capacity is no more than the storage
pub room-storage : (cs : List Channel) (ds : List (Option ℕ)) (c k : ℕ) → c < length cs → 1 ≤ (slice_index_or cs c nowhere).size → slice_index_or ds c None ≡ Some k → k ≤ storage_of cs ds
room-storage cs [] c k below size at = cc
room-storage [] (d ∷ ds) c k below size at = absurd (omega arith)
room-storage (x ∷ cs) (None ∷ ds) zero k below size at = cc
room-storage (x ∷ cs) (Some a ∷ ds) zero k below size at =
    let same : a ≡ k = cc in
    let more : a * 1 ≤ a * x.size = mul-le-mul_left a size in
    omega (arith, same, more)
room-storage (x ∷ cs) (None ∷ ds) (suc c) k below size at = room-storage cs ds c k (omega arith) size at
room-storage (x ∷ cs) (Some a ∷ ds) (suc c) k below size at = let later = room-storage cs ds c k (omega arith) size at in omega (arith, later)

pub enlarged-at : (ds : List (Option ℕ)) (c k by : ℕ) → slice_index_or ds c None ≡ Some k → slice_index_or (enlarged ds c by) c None ≡ Some (k + by)
enlarged-at [] c k by at = cc
enlarged-at (None ∷ ds) zero k by at = cc
enlarged-at (Some a ∷ ds) zero k by at = let same : a ≡ k = cc in ap (λ (n : ℕ). Some (n + by)) same
enlarged-at (d ∷ ds) (suc c) k by at = enlarged-at ds c k by at

-- more room, set; and set back
pub set-enlarged : (ds : List (Option ℕ)) (c k by : ℕ) → slice_index_or ds c None ≡ Some k → slice_set ds c (Some (k + by)) ≡ enlarged ds c by
set-enlarged [] c k by at = cc
set-enlarged (None ∷ ds) zero k by at = cc
set-enlarged (Some a ∷ ds) zero k by at = let same : k ≡ a = cc in ap (λ (n : ℕ). Some (n + by) ∷ ds) same
set-enlarged (d ∷ ds) (suc c) k by at = ap (λ (es : List (Option ℕ)). d ∷ es) (set-enlarged ds c k by at)

pub set-back : (ds : List (Option ℕ)) (c k n : ℕ) → slice_index_or ds c None ≡ Some k → slice_set (slice_set ds c (Some n)) c (Some k) ≡ ds
set-back [] c k n at = cc
set-back (None ∷ ds) zero k n at = cc
set-back (Some a ∷ ds) zero k n at = let same : k ≡ a = cc in ap (λ (m : ℕ). Some m ∷ ds) same
set-back (d ∷ ds) (suc c) k n at = ap (λ (es : List (Option ℕ)). d ∷ es) (set-back ds c k n at)
