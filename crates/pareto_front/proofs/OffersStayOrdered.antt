-- What putting an offer in its place keeps: order, what is covered, and that nothing else comes in.
use Rattle.std.proofs.Common.{◌≡◌, ◌*◌, ◌≤◌, ◌<◌, ◌⊎◌, true, false, List, [], ◌∷◌, inl, inr, ⊎_elim, subst, arith}
use Rattle.std.specs.Prelude.{Contains, nat_le}
use Rattle.std.proofs.lemmas.Bool.{cases_lt}
use Rattle.std.proofs.lemmas.Bool.Decides.{leb_tells}
use Rattle.storage.specs.CapacityOrder.{no_later}
use Rattle.sd_base.proofs.ContainedHavePlaces.{contains-cases, contains-here, contains-later}
use Rattle.storage.proofs.FrontsFromMembers.{no_less}
use Rattle.storage.proofs.CapacityOrder.{no_later-refl, no_later-total, no_later-trans}
use Rattle.pareto_front.specs.Offers.{Offer, Covers, IsCoveredBy, AreAbove, AreInOrder, is_slower, left_of, put}

pub covers-same : (p : Offer) → Covers p p
covers-same p = record { storage = omega arith; rate = omega arith; tie = λ s r. no_later-refl p.capacities }

pub covers-trans : (p o m : Offer) → Covers p o → Covers o m → Covers p m
covers-trans p o m one other = record {
  storage = omega (arith, one.storage, other.storage);
  rate = no_less m.rate.num m.rate.den o.rate.num o.rate.den p.rate.num p.rate.den o.rate.positive other.rate one.rate;
  tie = λ storage rate. let first : p.storage ≡ o.storage = omega (arith, one.storage, other.storage) in let second : o.storage ≡ m.storage = omega (arith, one.storage, other.storage) in let up : p.rate.num * o.rate.den ≤ o.rate.num * p.rate.den = no_less p.rate.num p.rate.den m.rate.num m.rate.den o.rate.num o.rate.den m.rate.positive (omega arith) other.rate in let down : o.rate.num * m.rate.den ≤ m.rate.num * o.rate.den = no_less o.rate.num o.rate.den p.rate.num p.rate.den m.rate.num m.rate.den p.rate.positive one.rate (omega arith) in
      no_later-trans p.capacities o.capacities m.capacities (one.tie first (omega (arith, one.rate))) (other.tie second (omega (arith, other.rate)));
}

back-covers : (n p : Offer) → (Covers p n → ⊥) → n.storage ≤ p.storage → p.rate.num * n.rate.den ≤ n.rate.num * p.rate.den → Covers n p
back-covers n p not storage rate = record {
  storage = storage;
  rate = rate;
  tie = λ same equal. ⊎_elim (λ (h : no_later n.capacities p.capacities ≡ true). h) (λ (h : no_later p.capacities n.capacities ≡ true). absurd (not (record { storage = omega arith; rate = omega arith; tie = λ s r. h }))) (no_later-total n.capacities p.capacities);
}

slower-tells : (p n : Offer) → ((is_slower p n ≡ true) × (p.rate.num * n.rate.den ≤ n.rate.num * p.rate.den)) ⊎ ((is_slower p n ≡ false) × (n.rate.num * p.rate.den < p.rate.num * n.rate.den))
slower-tells p n = leb_tells (p.rate.num * n.rate.den) (n.rate.num * p.rate.den)

less-rate : (p n : Offer) → (Covers p n → ⊥) → p.storage < n.storage → p.rate.num * n.rate.den < n.rate.num * p.rate.den
less-rate p n not less = ⊎_elim (λ (h : p.rate.num * n.rate.den < n.rate.num * p.rate.den). h) (λ (h : n.rate.num * p.rate.den ≤ p.rate.num * n.rate.den). absurd (not (record { storage = omega arith; rate = h; tie = λ s r. absurd (omega arith) }))) (cases_lt (p.rate.num * n.rate.den) (n.rate.num * p.rate.den))

more-storage : (p n : Offer) → (Covers p n → ⊥) → n.rate.num * p.rate.den < p.rate.num * n.rate.den → n.storage < p.storage
more-storage p n not faster = ⊎_elim (λ (h : n.storage < p.storage). h) (λ (h : p.storage ≤ n.storage). absurd (not (record { storage = h; rate = omega arith; tie = λ s r. absurd (omega arith) }))) (cases_lt n.storage p.storage)

abbrev IsLow : Offer → List Offer → Type 0
IsLow n [] = Unit {0}
IsLow n (p ∷ ps) = n.storage ≤ p.storage

rest-low : (n p : Offer) (ps : List Offer) → AreAbove p ps → n.storage ≤ p.storage → IsLow n ps
rest-low n p [] above low = tt
rest-low n p (q ∷ qs) above low = omega (arith, above.0)

pub rest-order : (p : Offer) (ps : List Offer) → AreAbove p ps → AreInOrder ps
rest-order p [] above = tt
rest-order p (q ∷ qs) above = above.2

left-above : (n : Offer) (ps : List Offer) → (IsCoveredBy ps n → ⊥) → IsLow n ps → AreInOrder ps → AreAbove n (left_of n ps)
left-above n [] not low order = tt
left-above n (p ∷ ps) not low order = ⊎_elim (λ (drop : (is_slower p n ≡ true) × (p.rate.num * n.rate.den ≤ n.rate.num * p.rate.den)). rw drop.0 (left-above n ps (λ covered. not (inr covered)) (rest-low n p ps order low) (rest-order p ps order))) (λ (keep : (is_slower p n ≡ false) × (n.rate.num * p.rate.den < p.rate.num * n.rate.den)). rw keep.0 (more-storage p n (λ c. not (inl c)) keep.1, keep.1, order)) (slower-tells p n)

put-above : (b n : Offer) (ps : List Offer) → (IsCoveredBy ps n → ⊥) → AreAbove b ps → b.storage < n.storage → b.rate.num * n.rate.den < n.rate.num * b.rate.den → AreAbove b (put n ps)
put-above b n [] not above storage rate = (storage, rate, tt)
put-above b n (p ∷ ps) not above storage rate = ⊎_elim (λ (here : (nat_le n.storage p.storage ≡ true) × (n.storage ≤ p.storage)). rw here.0 (storage, rate, left-above n (p ∷ ps) not here.1 above.2)) (λ (later : (nat_le n.storage p.storage ≡ false) × (p.storage < n.storage)). rw later.0 (above.0, above.1, put-above p n ps (λ covered. not (inr covered)) above.2 later.1 (less-rate p n (λ c. not (inl c)) later.1))) (leb_tells n.storage p.storage)

pub put-order : (n : Offer) (ps : List Offer) → (IsCoveredBy ps n → ⊥) → AreInOrder ps → AreInOrder (put n ps)
put-order n [] not order = tt
put-order n (p ∷ ps) not order = ⊎_elim (λ (here : (nat_le n.storage p.storage ≡ true) × (n.storage ≤ p.storage)). rw here.0 (left-above n (p ∷ ps) not here.1 order)) (λ (later : (nat_le n.storage p.storage ≡ false) × (p.storage < n.storage)). rw later.0 (put-above p n ps (λ covered. not (inr covered)) order later.1 (less-rate p n (λ c. not (inl c)) later.1))) (leb_tells n.storage p.storage)

left-covers : (n : Offer) (ps : List Offer) (o : Offer) → (IsCoveredBy ps n → ⊥) → AreInOrder ps → IsLow n ps → IsCoveredBy ps o → Covers n o ⊎ IsCoveredBy (left_of n ps) o
left-covers n [] o not order low covered = absurd covered
left-covers n (p ∷ ps) o not order low covered = ⊎_elim (λ (drop : (is_slower p n ≡ true) × (p.rate.num * n.rate.den ≤ n.rate.num * p.rate.den)). rw drop.0 (⊎_elim (λ (here : Covers p o). inl (covers-trans n p o (back-covers n p (λ c. not (inl c)) low drop.1) here)) (λ (later : IsCoveredBy ps o). left-covers n ps o (λ c. not (inr c)) (rest-order p ps order) (rest-low n p ps order low) later) covered)) (λ (keep : (is_slower p n ≡ false) × (n.rate.num * p.rate.den < p.rate.num * n.rate.den)). rw keep.0 (inr covered)) (slower-tells p n)

pub put-covers : (n : Offer) (ps : List Offer) (o : Offer) → (IsCoveredBy ps n → ⊥) → AreInOrder ps → IsCoveredBy ps o → IsCoveredBy (put n ps) o
put-covers n [] o not order covered = absurd covered
put-covers n (p ∷ ps) o not order covered = ⊎_elim (λ (here : (nat_le n.storage p.storage ≡ true) × (n.storage ≤ p.storage)). rw here.0 (left-covers n (p ∷ ps) o not order here.1 covered)) (λ (later : (nat_le n.storage p.storage ≡ false) × (p.storage < n.storage)). rw later.0 (⊎_elim (λ (h : Covers p o). inl h) (λ (h : IsCoveredBy ps o). inr (put-covers n ps o (λ c. not (inr c)) (rest-order p ps order) h)) covered)) (leb_tells n.storage p.storage)

pub put-has : (n : Offer) (ps : List Offer) → IsCoveredBy (put n ps) n
put-has n [] = inl (covers-same n)
put-has n (p ∷ ps) = ⊎_elim (λ (here : (nat_le n.storage p.storage ≡ true) × (n.storage ≤ p.storage)). rw here.0 (inl (covers-same n))) (λ (later : (nat_le n.storage p.storage ≡ false) × (p.storage < n.storage)). rw later.0 (inr (put-has n ps))) (leb_tells n.storage p.storage)

left-from : (n : Offer) (ps : List Offer) (o : Offer) → Contains (left_of n ps) o → Contains ps o
left-from n [] o is = is
left-from n (p ∷ ps) o is =
    ⊎_elim
    (λ (drop : (is_slower p n ≡ true) × (p.rate.num * n.rate.den ≤ n.rate.num * p.rate.den)). contains-later p ps o (left-from n ps o (rw drop.0 at is)))
    (λ (keep : (is_slower p n ≡ false) × (n.rate.num * p.rate.den < p.rate.num * n.rate.den)). rw keep.0 at is)
    (slower-tells p n)

-- what follows the first comes from the list, or is n
put-later : (n p : Offer) (ps : List Offer) (o : Offer) → (n ≡ o) ⊎ Contains ps o → (n ≡ o) ⊎ Contains (p ∷ ps) o
put-later n p ps o from = ⊎_elim (λ (k : n ≡ o). inl k) (λ (k : Contains ps o). inr (contains-later p ps o k)) from

pub put-from : (n : Offer) (ps : List Offer) (o : Offer) → Contains (put n ps) o → (n ≡ o) ⊎ Contains ps o
put-from n [] o is = contains-cases n [] o is
put-from n (p ∷ ps) o is =
    ⊎_elim
    (λ (here : (nat_le n.storage p.storage ≡ true) × (n.storage ≤ p.storage)).
    let now : Contains (n ∷ left_of n (p ∷ ps)) o = rw here.0 at is in
    ⊎_elim (λ (h : n ≡ o). inl h) (λ (h : Contains (left_of n (p ∷ ps)) o). inr (left-from n (p ∷ ps) o h)) (contains-cases n (left_of n (p ∷ ps)) o now))
    (λ (later : (nat_le n.storage p.storage ≡ false) × (p.storage < n.storage)).
    let now : Contains (p ∷ put n ps) o = rw later.0 at is in
    ⊎_elim
    (λ (h : p ≡ o). inr (subst (Contains (p ∷ ps)) h (contains-here p ps)))
    (λ (h : Contains (put n ps) o). put-later n p ps o (put-from n ps o h))
    (contains-cases p (put n ps) o now))
    (leb_tells n.storage p.storage)
