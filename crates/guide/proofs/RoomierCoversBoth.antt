-- The least distribution with no less room than either of two is one, and has at least the room of each.
use Rattle.std.proofs.Common.{◌≡◌, ℕ, zero, suc, max, Option, None, Some, List, [], ◌∷◌, refl, sym, ap, ◌∙◌, arith}
use Rattle.std.proofs.lemmas.Bool.{true≢false}
use Rattle.sd_base.specs.Net.{Channel}
use Rattle.storage.specs.Distributions.{AtMost, CanHold, IsDistribution, capacity_at}
use Rattle.guide.specs.Covering.{HasNoMore}

pub roomier : List (Option ℕ) → List (Option ℕ) → List (Option ℕ)
roomier (None ∷ ds) (e ∷ es) = None ∷ roomier ds es
roomier (Some a ∷ ds) (Some b ∷ es) = Some (max a b) ∷ roomier ds es
roomier ds es = ds

pub roomier-distribution : (cs : List Channel) (ds es : List (Option ℕ)) → IsDistribution cs ds → IsDistribution cs es → IsDistribution cs (roomier ds es)
unfolding roomier
roomier-distribution [] [] es one other = tt
roomier-distribution [] (d ∷ ds) es one other = elim one [ ]
roomier-distribution (c ∷ cs) [] es one other = one
roomier-distribution (c ∷ cs) (None ∷ ds) [] one other = one
roomier-distribution (c ∷ cs) (Some a ∷ ds) [] one other = one
roomier-distribution (c ∷ cs) (None ∷ ds) (None ∷ es) one other = (one.0, one.1, roomier-distribution cs ds es one.2 other.2)
roomier-distribution (c ∷ cs) (None ∷ ds) (Some b ∷ es) one other = absurd (other.1 one.1)
roomier-distribution (c ∷ cs) (Some a ∷ ds) (None ∷ es) one other = absurd (one.1 other.1)
roomier-distribution (c ∷ cs) (Some a ∷ ds) (Some b ∷ es) one other = (one.0, one.1, omega (arith, one.2), roomier-distribution cs ds es one.3 other.3)

pub roomier-held : (cs : List Channel) (ds es : List (Option ℕ)) → IsDistribution cs ds → IsDistribution cs es → CanHold cs ds → CanHold cs es → CanHold cs (roomier ds es)
unfolding roomier
roomier-held [] [] es one other holds also = tt
roomier-held [] (d ∷ ds) es one other holds also = elim one [ ]
roomier-held (c ∷ cs) [] es one other holds also = tt
roomier-held (c ∷ cs) (None ∷ ds) [] one other holds also = holds
roomier-held (c ∷ cs) (Some a ∷ ds) [] one other holds also = holds
roomier-held (c ∷ cs) (None ∷ ds) (None ∷ es) one other holds also = roomier-held cs ds es one.2 other.2 holds also
roomier-held (c ∷ cs) (None ∷ ds) (Some b ∷ es) one other holds also = absurd (other.1 one.1)
roomier-held (c ∷ cs) (Some a ∷ ds) (None ∷ es) one other holds also = absurd (one.1 other.1)
roomier-held (c ∷ cs) (Some a ∷ ds) (Some b ∷ es) one other holds also = (holds.0, omega (arith, holds.1), omega (arith, holds.2, also.2), roomier-held cs ds es one.3 other.3 holds.3 also.3)

same-most : (cs : List Channel) (ds : List (Option ℕ)) → IsDistribution cs ds → AtMost ds ds
same-most [] [] one = tt
same-most [] (d ∷ ds) one = elim one [ ]
same-most (c ∷ cs) [] one = tt
same-most (c ∷ cs) (None ∷ ds) one = same-most cs ds one.2
same-most (c ∷ cs) (Some a ∷ ds) one = (omega arith, same-most cs ds one.3)

pub roomier-first : (cs : List Channel) (ds es : List (Option ℕ)) → IsDistribution cs ds → IsDistribution cs es → AtMost ds (roomier ds es)
unfolding roomier
roomier-first [] [] es one other = tt
roomier-first [] (d ∷ ds) es one other = elim one [ ]
roomier-first (c ∷ cs) [] es one other = tt
roomier-first (c ∷ cs) (None ∷ ds) [] one other = same-most cs ds one.2
roomier-first (c ∷ cs) (Some a ∷ ds) [] one other = (omega arith, same-most cs ds one.3)
roomier-first (c ∷ cs) (None ∷ ds) (None ∷ es) one other = roomier-first cs ds es one.2 other.2
roomier-first (c ∷ cs) (None ∷ ds) (Some b ∷ es) one other = absurd (other.1 one.1)
roomier-first (c ∷ cs) (Some a ∷ ds) (None ∷ es) one other = absurd (one.1 other.1)
roomier-first (c ∷ cs) (Some a ∷ ds) (Some b ∷ es) one other = (omega arith, roomier-first cs ds es one.3 other.3)

pub roomier-second : (cs : List Channel) (ds es : List (Option ℕ)) → IsDistribution cs ds → IsDistribution cs es → AtMost es (roomier ds es)
unfolding roomier
roomier-second [] [] [] one other = tt
roomier-second [] [] (e ∷ es) one other = elim other [ ]
roomier-second [] (d ∷ ds) es one other = elim one [ ]
roomier-second (c ∷ cs) [] [] one other = tt
roomier-second (c ∷ cs) [] (None ∷ es) one other = absurd (true≢false (sym other.0 ∙ one.0))
roomier-second (c ∷ cs) [] (Some b ∷ es) one other = absurd (true≢false (sym other.0 ∙ one.0))
roomier-second (c ∷ cs) (None ∷ ds) [] one other = absurd (true≢false (sym one.0 ∙ other.0))
roomier-second (c ∷ cs) (Some a ∷ ds) [] one other = absurd (true≢false (sym one.0 ∙ other.0))
roomier-second (c ∷ cs) (None ∷ ds) (None ∷ es) one other = roomier-second cs ds es one.2 other.2
roomier-second (c ∷ cs) (None ∷ ds) (Some b ∷ es) one other = absurd (other.1 one.1)
roomier-second (c ∷ cs) (Some a ∷ ds) (None ∷ es) one other = absurd (one.1 other.1)
roomier-second (c ∷ cs) (Some a ∷ ds) (Some b ∷ es) one other = (omega arith, roomier-second cs ds es one.3 other.3)

-- where the second has no more room, it is that of the first
pub roomier-same : (cs : List Channel) (ds es : List (Option ℕ)) (c : ℕ) → IsDistribution cs ds → IsDistribution cs es → HasNoMore (capacity_at es c) (capacity_at ds c) → capacity_at ds c ≡ capacity_at (roomier ds es) c
unfolding roomier
roomier-same [] [] es c one other none = refl
roomier-same [] (d ∷ ds) es c one other none = elim one [ ]
roomier-same (x ∷ cs) [] es c one other none = refl
roomier-same (x ∷ cs) (None ∷ ds) [] c one other none = refl
roomier-same (x ∷ cs) (Some a ∷ ds) [] c one other none = refl
roomier-same (x ∷ cs) (None ∷ ds) (None ∷ es) zero one other none = refl
roomier-same (x ∷ cs) (None ∷ ds) (None ∷ es) (suc c) one other none = roomier-same cs ds es c one.2 other.2 none
roomier-same (x ∷ cs) (None ∷ ds) (Some b ∷ es) c one other none = absurd (other.1 one.1)
roomier-same (x ∷ cs) (Some a ∷ ds) (None ∷ es) c one other none = absurd (one.1 other.1)
roomier-same (x ∷ cs) (Some a ∷ ds) (Some b ∷ es) zero one other none = let most : a ≡ max a b = omega (arith, none) in ap (λ (k : ℕ). Some k) most
roomier-same (x ∷ cs) (Some a ∷ ds) (Some b ∷ es) (suc c) one other none = roomier-same cs ds es c one.3 other.3 none
