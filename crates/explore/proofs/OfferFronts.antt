-- The pairs of offers in order that cover the members of a closed list and are reached.
use Rattle.std.proofs.Common.{◌≡◌, ℕ, zero, suc, ◌*◌, ◌≤◌, ◌<◌, List, [], ◌∷◌, length, map, ⊎_elim, subst, arith}
use Rattle.std.specs.Prelude.{slice_index_or}
use Rattle.sd_base.specs.Net.{Net}
use Rattle.storage.specs.Distributions.{storage_of}
use Rattle.storage.specs.ParetoPoints.{Pair, IsReachedPair, no_pair}
use Rattle.storage.specs.ClosedLists.{Entry, entry_at, IsFrontOver}
use Rattle.storage.proofs.FrontsFromMembers.{less_on}
use Rattle.pareto_front.specs.Offers.{Offer, Covers, IsCoveredBy, AreAbove, AreInOrder}
use Rattle.pareto_front.proofs.OffersStayOrdered.{rest-order}

abbrev pub pair_of : Offer → Pair
pair_of o = record { storage = o.storage; num = o.rate.num; den = o.rate.den }

abbrev at : List Offer → ℕ → Pair
at ps i = slice_index_or (map pair_of ps) i no_pair

pub den-at : (ps : List Offer) (j : ℕ) → j < length (map pair_of ps) → 1 ≤ (at ps j).den
den-at [] j below = absurd (omega arith)
den-at (q ∷ qs) zero below = q.rate.positive
den-at (q ∷ qs) (suc j) below = den-at qs j (omega arith)

above-at : (p : Offer) (ps : List Offer) → AreAbove p ps → (j : ℕ) → j < length (map pair_of ps) → (p.storage < (at ps j).storage) × (p.rate.num * (at ps j).den < (at ps j).num * p.rate.den)
above-at p [] above j below = absurd (omega arith)
above-at p (q ∷ qs) above zero below = (above.0, above.1)
above-at p (q ∷ qs) above (suc j) below = let later = above-at q qs above.2 j (omega arith) in let less : q.rate.num * (at qs j).den < (at qs j).num * q.rate.den = later.1 in (omega (arith, above.0, later.0), less_on p.rate.num p.rate.den q.rate.num q.rate.den (at qs j).num (at qs j).den p.rate.positive q.rate.positive (den-at qs j (omega arith)) above.1 (omega arith))

rises : (ps : List Offer) → AreInOrder ps → (i j : ℕ) → i < j → j < length (map pair_of ps) → ((at ps i).storage < (at ps j).storage) × ((at ps i).num * (at ps j).den < (at ps j).num * (at ps i).den)
rises [] order i j less below = absurd (omega arith)
rises (p ∷ ps) order i zero less below = absurd (omega arith)
rises (p ∷ ps) order zero (suc j) less below = above-at p ps order j (omega arith)
rises (p ∷ ps) order (suc i) (suc j) less below = rises ps (rest-order p ps order) i j (omega arith) (omega arith)

covering-at : (ps : List Offer) (o : Offer) → IsCoveredBy ps o → (k : ℕ) × (k < length (map pair_of ps)) × ((at ps k).storage ≤ o.storage) × (o.rate.num * (at ps k).den ≤ (at ps k).num * o.rate.den)
covering-at [] o covered = absurd covered
covering-at (p ∷ ps) o covered = ⊎_elim (λ (here : Covers p o). (0, omega arith, here.storage, here.rate)) (λ (later : IsCoveredBy ps o). let found = covering-at ps o later in (suc found.0, omega (arith, found.1), found.2, found.3)) covered

pub record IsOffered (net : Net) (e : Entry) (ps : List Offer) : Type 0 where
  pub offer : Offer
  pub storage : offer.storage ≡ storage_of net.channels e.capacities
  pub num : offer.rate.num ≡ e.num
  pub den : offer.rate.den ≡ e.den
  pub covered : IsCoveredBy ps offer

pub front-of_offers : (net : Net) (limit : ℕ) (es : List Entry) (ps : List Offer) → AreInOrder ps → ((i : ℕ) → i < length (map pair_of ps) → IsReachedPair net limit (at ps i)) → ((i : ℕ) → i < length es → 1 ≤ (entry_at es i).num → IsOffered net (entry_at es i) ps) → IsFrontOver net limit es (map pair_of ps)
front-of_offers net limit es ps order reached offered = record {
  storage = λ i j less below. (rises ps order i j less below).0;
  rate = λ i j less below. (rises ps order i j less below).1;
  reached = reached;
  covers = λ i below runs. let it : IsOffered net (entry_at es i) ps = offered i below runs in moved (entry_at es i) it.offer it.storage it.num it.den (covering-at ps it.offer it.covered);
}
  where
    moved : (e : Entry) (o : Offer) → o.storage ≡ storage_of net.channels e.capacities → o.rate.num ≡ e.num → o.rate.den ≡ e.den → (k : ℕ) × (k < length (map pair_of ps)) × ((at ps k).storage ≤ o.storage) × (o.rate.num * (at ps k).den ≤ (at ps k).num * o.rate.den) → (k : ℕ) × (k < length (map pair_of ps)) × ((at ps k).storage ≤ storage_of net.channels e.capacities) × (e.num * (at ps k).den ≤ (at ps k).num * e.den)
    moved e o storage num den (k, below, low, rate) = (k, below, omega arith, subst (λ (x : ℕ). x * (at ps k).den ≤ (at ps k).num * e.den) num (subst (λ (x : ℕ). o.rate.num * (at ps k).den ≤ (at ps k).num * x) den rate))
