-- A point offered is put in its place unless another covers it, and the list is the front with it.
use Rattle.std.proofs.Common.{◌≡◌, ℕ, zero, suc, ◌≤◌, ◌<◌, ◌⊎◌, Bool, true, false, List, [], ◌∷◌, ◌++◌, length, map, take, drop, insert, if◌then◌else◌, inl, inr, ⊎_elim, refl, ap, ◌∙◌, subst, arith}
use Rattle.std.specs.Prelude.{Contains, slice_index_or, nat_le}
use Rattle.std.proofs.lemmas.Bool.Decides.{leb_tells}
use Rattle.std.proofs.lemmas.List.Elements.{Contains-append_left, Contains-push, Contains-push_cases}
use Rattle.pareto_front.specs.Offers.{Offer, Covers, IsCoveredBy, is_slower, left_of, put}
use Rattle.pareto_front.proofs.OffersStayOrdered.{put-order, put-covers, put-has, put-from}
use Rattle.pareto_front.specs.declared.point.Point.{Point}
use Rattle.pareto_front.specs.Points.{IsFrontOf, IsOffered, left_points, offer_of, put_point}

-- covering by index

pub covered-at : (ps : List Point) (o : Offer) (k : ℕ) (d : Point) → k < length ps → Covers (offer_of (slice_index_or ps k d)) o → IsCoveredBy (map offer_of ps) o
covered-at [] o k d below covers = absurd (omega arith)
covered-at (p ∷ ps) o zero d below covers = inl covers
covered-at (p ∷ ps) o (suc k) d below covers = inr (covered-at ps o k d (omega arith) covers)

pub none-covers : (ps : List Point) (o : Offer) → ((k : ℕ) (d : Point) → k < length ps → Covers (offer_of (slice_index_or ps k d)) o → ⊥) → IsCoveredBy (map offer_of ps) o → ⊥
none-covers [] o none covered = covered
none-covers (p ∷ ps) o none covered = ⊎_elim (λ (here : Covers (offer_of p) o). none 0 p (omega arith) here) (λ (later : IsCoveredBy (map offer_of ps) o). none-covers ps o (λ k d below covers. none (suc k) d (omega arith) covers) later) covered

-- the point in its place

pub put-parts : (n : Point) (ps : List Point) (place : ℕ) → place ≤ length ps → ((k : ℕ) (d : Point) → k < place → (slice_index_or ps k d).total < n.total) → ((d : Point) → place < length ps → n.total ≤ (slice_index_or ps place d).total) → put_point n ps ≡ take place ps ++ n ∷ left_points n (drop place ps)
put-parts n [] zero within below here = refl
put-parts n [] (suc place) within below here = absurd (omega arith)
put-parts n (p ∷ ps) zero within below here = ⊎_elim (λ (low : (nat_le n.total p.total ≡ true) × (n.total ≤ p.total)). rw low.0 refl) (λ (high : (nat_le n.total p.total ≡ false) × (p.total < n.total)). let at : n.total ≤ p.total = here p (omega arith) in absurd (omega (arith, high.1))) (leb_tells n.total p.total)
put-parts n (p ∷ ps) (suc place) within below here = ⊎_elim (λ (low : (nat_le n.total p.total ≡ true) × (n.total ≤ p.total)). let at : p.total < n.total = below 0 p (omega arith) in absurd (omega (arith, low.1))) (λ (high : (nat_le n.total p.total ≡ false) × (p.total < n.total)). rw high.0 (ap (λ (xs : List Point). p ∷ xs) (put-parts n ps place (omega arith) (λ k d less. below (suc k) d (omega arith)) (λ d less. here d (omega arith))))) (leb_tells n.total p.total)

-- a part removed point by point

pub cut-inserted : (n : Point) (ps : List Point) (place end : ℕ) → place ≤ end → end ≤ length ps → take (suc place) (insert ps place n) ++ drop (suc end) (insert ps place n) ≡ take place ps ++ n ∷ drop end ps
cut-inserted n [] zero zero order within = refl
cut-inserted n [] zero (suc end) order within = absurd (omega arith)
cut-inserted n [] (suc place) end order within = absurd (omega arith)
cut-inserted n (x ∷ ps) zero end order within = refl
cut-inserted n (x ∷ ps) (suc place) zero order within = absurd (omega arith)
cut-inserted n (x ∷ ps) (suc place) (suc end) order within = ap (λ (ys : List Point). x ∷ ys) (cut-inserted n ps place end (omega arith) (omega arith))

-- points and offers

if-map : (b : Bool) (xs ys : List Point) → map offer_of (if b then xs else ys) ≡ (if b then map offer_of xs else map offer_of ys)
if-map true xs ys = refl
if-map false xs ys = refl

left-map : (n : Point) (ps : List Point) → map offer_of (left_points n ps) ≡ left_of (offer_of n) (map offer_of ps)
left-map n [] = refl
left-map n (p ∷ ps) = if-map (is_slower (offer_of p) (offer_of n)) (left_points n ps) (p ∷ ps) ∙ ap (λ (xs : List Offer). if is_slower (offer_of p) (offer_of n) then xs else offer_of p ∷ map offer_of ps) (left-map n ps)

put-map : (n : Point) (ps : List Point) → map offer_of (put_point n ps) ≡ put (offer_of n) (map offer_of ps)
put-map n [] = refl
put-map n (p ∷ ps) =
    if-map (nat_le n.total p.total) (n ∷ left_points n (p ∷ ps)) (p ∷ put_point n ps)
    ∙ (ap (λ (xs : List Offer). if nat_le n.total p.total then offer_of n ∷ xs else offer_of p ∷ map offer_of (put_point n ps)) (left-map n (p ∷ ps))
    ∙ ap (λ (xs : List Offer). if nat_le n.total p.total then offer_of n ∷ left_of (offer_of n) (offer_of p ∷ map offer_of ps) else offer_of p ∷ xs) (put-map n ps))

same-covered : (ps : List Offer) (n o : Offer) → n ≡ o → IsCoveredBy ps n → IsCoveredBy ps o
same-covered ps n o same covered = let P : Offer → Type 0 = IsCoveredBy ps in rw (← same) covered

-- offering

put-front : (n : Offer) (os ps : List Offer) → (IsCoveredBy ps n → ⊥) → IsFrontOf os ps → IsFrontOf (os ++ n ∷ []) (put n ps)
put-front n os ps not front = record {
  order = put-order n ps not front.order;
  covers = λ o is. ⊎_elim (λ (old : Contains os o). put-covers n ps o not front.order (front.covers o old)) (λ (same : n ≡ o). same-covered (put n ps) n o same (put-has n ps)) (Contains-push_cases os n o is);
  among = λ p is. ⊎_elim (λ (same : n ≡ p). subst (Contains (os ++ n ∷ [])) same (Contains-push os n)) (λ (old : Contains ps p). Contains-append_left os (n ∷ []) p (front.among p old)) (put-from n ps p is);
}

same-front : (n : Offer) (os ps : List Offer) → IsCoveredBy ps n → IsFrontOf os ps → IsFrontOf (os ++ n ∷ []) ps
same-front n os ps covered front = record {
  order = front.order;
  covers = λ o is. ⊎_elim (λ (old : Contains os o). front.covers o old) (λ (same : n ≡ o). same-covered ps n o same covered) (Contains-push_cases os n o is);
  among = λ p is. Contains-append_left os (n ∷ []) p (front.among p is);
}

pub offered-front : (n : Point) (old new : List Point) → IsOffered n old new → (os : List Offer) → IsFrontOf os (map offer_of old) → IsFrontOf (os ++ offer_of n ∷ []) (map offer_of new)
offered-front n old new (inl (covered, is)) os front = rw is (same-front (offer_of n) os (map offer_of old) covered front)
offered-front n old new (inr (not, is)) os front = rw (is, put-map n old) (put-front (offer_of n) os (map offer_of old) not front)
