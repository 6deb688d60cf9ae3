-- What holds of a net bounded by one distribution holds with each other: channels, inputs, laws.
use Rattle.std.proofs.Common.{◌≡◌, ℕ, suc, ◌*◌, ◌≤◌, ◌<◌, true, false, Option, None, Some, List, [], ◌∷◌, length, sym, refl, ap, ◌∙◌, arith, mul-le-mul_left}
use Rattle.std.specs.Prelude.{slice_index_or}
use Rattle.sd_base.specs.declared.limits.TheConstants.{NET_CHANNELS, NET_TOKENS}
use Rattle.sd_base.specs.Net.{Channel, Net, nowhere}
use Rattle.sd_base.specs.Lawful.{Lawful}
use Rattle.storage.specs.Distributions.{CanHold, IsDistribution, storage_of}
use Rattle.storage.specs.BoundedNets.{spaces_from, bound, HasNoSpaces}
use Rattle.storage.proofs.SpaceChannels.{bound-long}
use Rattle.storage.proofs.BoundingKeepsLaws.{bound-lawful}

pub can-hold : (cs : List Channel) (ds : List (Option ℕ)) → ((i : ℕ) → i < length cs → 1 ≤ (slice_index_or cs i nowhere).size) → IsDistribution cs ds → storage_of cs ds ≤ NET_TOKENS → CanHold cs ds
can-hold [] [] sizes dist few = tt
can-hold [] (d ∷ ds) sizes dist few = absurd dist
can-hold (c ∷ cs) [] sizes dist few = tt
can-hold (c ∷ cs) (None ∷ ds) sizes dist few = can-hold cs ds (λ i below. sizes (suc i) (omega arith)) dist.2 few
can-hold (c ∷ cs) (Some k ∷ ds) sizes dist few = let one : k * 1 ≤ k * c.size = mul-le-mul_left k (sizes 0 (omega arith)) in (dist.1, dist.2, omega arith, can-hold cs ds (λ i below. sizes (suc i) (omega arith)) dist.3 (omega arith))

same-many : (n : ℕ) (cs : List Channel) (ds es : List (Option ℕ)) → IsDistribution cs ds → IsDistribution cs es → length (spaces_from n cs ds) ≡ length (spaces_from n cs es)
same-many n [] ds es one other = refl
same-many n (c ∷ cs) [] [] one other = refl
same-many n (c ∷ cs) [] (None ∷ es) one other = absurd (let no : true ≡ false = sym other.0 ∙ one.0 in cc)
same-many n (c ∷ cs) [] (Some b ∷ es) one other = absurd (let no : true ≡ false = sym other.0 ∙ one.0 in cc)
same-many n (c ∷ cs) (None ∷ ds) [] one other = absurd (let no : true ≡ false = sym one.0 ∙ other.0 in cc)
same-many n (c ∷ cs) (Some a ∷ ds) [] one other = absurd (let no : true ≡ false = sym one.0 ∙ other.0 in cc)
same-many n (c ∷ cs) (None ∷ ds) (None ∷ es) one other = same-many (suc n) cs ds es one.2 other.2
same-many n (c ∷ cs) (None ∷ ds) (Some b ∷ es) one other = absurd (other.1 one.1)
same-many n (c ∷ cs) (Some a ∷ ds) (None ∷ es) one other = absurd (one.1 other.1)
same-many n (c ∷ cs) (Some a ∷ ds) (Some b ∷ es) one other = ap suc (same-many (suc n) cs ds es one.3 other.3)

pub same-channels : (net : Net) (ds es : List (Option ℕ)) → IsDistribution net.channels ds → IsDistribution net.channels es → length (bound net ds).channels ≡ length (bound net es).channels
same-channels net ds es one other = omega (arith, bound-long net ds, bound-long net es, same-many 0 net.channels ds es one other)

pub within-lawful : (net : Net) → Lawful net → HasNoSpaces net → (ds es : List (Option ℕ)) → IsDistribution net.channels ds → length (bound net ds).channels ≤ NET_CHANNELS → IsDistribution net.channels es → storage_of net.channels es ≤ NET_TOKENS → Lawful (bound net es)
within-lawful net laws none ds es one few other small = bound-lawful net laws es none (can-hold net.channels es laws.some_size other small) (omega (arith, same-channels net ds es one other))
