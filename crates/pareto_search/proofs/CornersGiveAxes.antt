-- The axes that a corner gives: how many there are, where they begin, and their steps.
use Rattle.std.proofs.Common.{◌≡◌, ℕ, zero, suc, ◌≤◌, ◌<◌, Option, None, Some, List, [], ◌∷◌, ◌++◌, length, map, take, refl, ap, ◌∙◌, arith}
use Rattle.std.specs.Prelude.{slice_index_or}
use Rattle.sd_base.specs.Net.{Channel, nowhere}
use Rattle.storage.specs.Distributions.{capacity_at}
use Rattle.storage.specs.Steps.{IsCorner, step_of}
use Rattle.covers.specs.declared.lattice.Axis.{Axis}
use Rattle.pareto_search.specs.inside.Vectors.{AreAxesOf, IsAxisOf, vector_of}

pub corner-length : (cs : List Channel) (ds : List (Option ℕ)) → IsCorner cs ds → length ds ≤ length cs
corner-length [] [] corner = omega arith
corner-length [] (d ∷ ds) corner = absurd corner
corner-length (c ∷ cs) [] corner = omega arith
corner-length (c ∷ cs) (None ∷ ds) corner = omega (arith, corner-length cs ds corner.2)
corner-length (c ∷ cs) (Some k ∷ ds) corner = omega (arith, corner-length cs ds corner.3)

pub axes-length : (cs : List Channel) (ds : List (Option ℕ)) (axes : List Axis) → AreAxesOf cs ds axes → length axes ≡ length ds
axes-length [] [] [] are = refl
axes-length (c ∷ cs) [] [] are = refl
axes-length (c ∷ cs) (d ∷ ds) (a ∷ axes) are = ap suc (axes-length cs ds axes are.1)
axes-length cs ds axes are = absurd are

none-are : (cs : List Channel) → AreAxesOf cs [] []
none-are [] = tt
none-are (c ∷ cs) = tt

-- one more entry has its axis
pub axes-push : (cs : List Channel) (ds : List (Option ℕ)) (axes : List Axis) (i : ℕ) (a : Axis) → i < length ds → length ds ≤ length cs → IsAxisOf (slice_index_or cs i nowhere) (slice_index_or ds i None) a → AreAxesOf cs (take i ds) axes →
    AreAxesOf cs (take (suc i) ds) (axes ++ a ∷ [])
axes-push cs [] axes i a below long is are = absurd (omega arith)
axes-push [] (d ∷ ds) axes i a below long is are = absurd (omega arith)
axes-push (c ∷ cs) (d ∷ ds) [] zero a below long is are = (is, none-are cs)
axes-push (c ∷ cs) (d ∷ ds) (b ∷ axes) zero a below long is are = absurd are
axes-push (c ∷ cs) (d ∷ ds) [] (suc i) a below long is are = absurd are
axes-push (c ∷ cs) (d ∷ ds) (b ∷ axes) (suc i) a below long is are = (are.0, axes-push cs ds axes i a (omega arith) (omega arith) is are.1)

-- the axis of a channel with a capacity has its step
pub axis-step : (cs : List Channel) (ds : List (Option ℕ)) (axes : List Axis) (c k : ℕ) (a : Axis) → AreAxesOf cs ds axes → capacity_at ds c ≡ Some k → (slice_index_or axes c a).step ≡ step_of (slice_index_or cs c nowhere)
axis-step [] [] [] c k a are at = cc
axis-step (x ∷ cs) [] [] c k a are at = cc
axis-step (x ∷ cs) (None ∷ ds) (b ∷ axes) zero k a are at = cc
axis-step (x ∷ cs) (Some n ∷ ds) (b ∷ axes) zero k a are at = are.0.1
axis-step (x ∷ cs) (d ∷ ds) (b ∷ axes) (suc c) k a are at = axis-step cs ds axes c k a are.1 at
axis-step cs ds axes c k a are at = absurd are

-- the axes begin where the corner is
pub corner-vector : (cs : List Channel) (ds : List (Option ℕ)) (axes : List Axis) → AreAxesOf cs ds axes → map (λ (a : Axis). a.corner) axes ≡ vector_of ds
corner-vector [] [] [] are = refl
corner-vector (c ∷ cs) [] [] are = refl
corner-vector (c ∷ cs) (None ∷ ds) (a ∷ axes) are =
    ap (λ (k : ℕ). k ∷ map (λ (b : Axis). b.corner) axes) are.0.0
    ∙ ap (λ (ks : List ℕ). 0 ∷ ks) (corner-vector cs ds axes are.1)
corner-vector (c ∷ cs) (Some n ∷ ds) (a ∷ axes) are =
    ap (λ (k : ℕ). k ∷ map (λ (b : Axis). b.corner) axes) are.0.0
    ∙ ap (λ (ks : List ℕ). n ∷ ks) (corner-vector cs ds axes are.1)
corner-vector cs ds axes are = absurd are
