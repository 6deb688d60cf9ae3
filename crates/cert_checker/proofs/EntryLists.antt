-- A list of capacities is a distribution exactly where the entry of each channel is right.
use Rattle.std.proofs.Common.{◌≡◌, ℕ, zero, suc, ◌≤◌, ◌<◌, ◌↔◌, Option, None, Some, List, [], ◌∷◌, length, sym, subst, true≢false, arith}
use Rattle.std.specs.Prelude.{IsTrue, false, slice_get, slice_index_or}
use Rattle.sd_base.specs.Net.{Channel, nowhere}
use Rattle.storage.specs.Distributions.{IsDistribution}
use Rattle.storage.proofs.EnlargingAddsRoom.{distribution-length}
use Rattle.cert_checker.specs.inside.Entries.{Fits}

pub fits-distribution : (cs : List Channel) (ds : List (Option ℕ)) → length ds ≤ length cs → ((i : ℕ) → i < length cs → Fits (slice_index_or cs i nowhere) (slice_get ds i)) → IsDistribution cs ds
fits-distribution [] [] few all = tt
fits-distribution [] (d ∷ ds) few all = absurd (omega arith)
fits-distribution (c ∷ cs) [] few all = let here = all 0 (omega arith) in (here.0, here.1, fits-distribution cs [] (omega arith) (λ i below. all (suc i) (omega arith)))
fits-distribution (c ∷ cs) (None ∷ ds) few all = let here = all 0 (omega arith) in (here.0, here.1, fits-distribution cs ds (omega arith) (λ i below. all (suc i) (omega arith)))
fits-distribution (c ∷ cs) (Some k ∷ ds) few all = let here = all 0 (omega arith) in (here.0, here.1, here.2, fits-distribution cs ds (omega arith) (λ i below. all (suc i) (omega arith)))

pub distribution-fits : (cs : List Channel) (ds : List (Option ℕ)) → IsDistribution cs ds → (i : ℕ) → i < length cs → Fits (slice_index_or cs i nowhere) (slice_get ds i)
distribution-fits [] ds is i below = absurd (omega arith)
distribution-fits (c ∷ cs) [] is zero below = (is.0, is.1)
distribution-fits (c ∷ cs) [] is (suc i) below = distribution-fits cs [] is.2 i (omega arith)
distribution-fits (c ∷ cs) (None ∷ ds) is zero below = (is.0, is.1)
distribution-fits (c ∷ cs) (None ∷ ds) is (suc i) below = distribution-fits cs ds is.2 i (omega arith)
distribution-fits (c ∷ cs) (Some k ∷ ds) is zero below = (is.0, is.1, is.2)
distribution-fits (c ∷ cs) (Some k ∷ ds) is (suc i) below = distribution-fits cs ds is.3 i (omega arith)

-- the entry of some channel is wrong
pub unfit : (cs : List Channel) (ds : List (Option ℕ)) (i : ℕ) (o : Option (Option ℕ)) → i < length cs → o ≡ slice_get ds i → (Fits (slice_index_or cs i nowhere) o → ⊥) → IsTrue false ↔ IsDistribution cs ds
unfit cs ds i o below is wrong = (
  λ no. absurd (true≢false (sym no)),
  λ dist. absurd (wrong (subst (Fits (slice_index_or cs i nowhere)) (sym is) (distribution-fits cs ds dist i below))),
)

-- there are more entries than channels
pub too-long : (cs : List Channel) (ds : List (Option ℕ)) → length cs < length ds → IsTrue false ↔ IsDistribution cs ds
too-long cs ds more = (
  λ no. absurd (true≢false (sym no)),
  λ dist. absurd (omega (arith, more, distribution-length cs ds dist)),
)
