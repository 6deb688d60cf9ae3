-- Points as offers, and the front of what was offered.
use Rattle.std.specs.Prelude.{◌≡◌, ◌⊎◌, Contains, List, [], ◌∷◌, map, if◌then◌else◌, nat_le}
use Rattle.pareto_front.specs.declared.point.Point.{Point}
use Rattle.pareto_front.specs.Offers.{Offer, IsCoveredBy, AreInOrder, is_slower}

-- a point without its loop
abbrev pub offer_of : Point → Offer
offer_of p = record { storage = p.total; rate = p.rate; capacities = p.capacities.capacities }

-- the list is in order, covers each offer, and has offers alone
pub record IsFrontOf (offers points : List Offer) : Type 0 where
  pub order : AreInOrder points
  pub covers : (o : Offer) → Contains offers o → IsCoveredBy points o
  pub among : (p : Offer) → Contains points p → Contains offers p

-- what is left of points of no less storage than n, which n covers as long as their rates are no greater
abbrev pub left_points : Point → List Point → List Point
left_points n [] = []
left_points n (p ∷ ps) = if is_slower (offer_of p) (offer_of n) then left_points n ps else p ∷ ps

-- n in its place, and what it covers left out
abbrev pub put_point : Point → List Point → List Point
put_point n [] = n ∷ []
put_point n (p ∷ ps) = if nat_le n.total p.total then n ∷ left_points n (p ∷ ps) else p ∷ put_point n ps

-- what offering a point makes of the points: the same, if one covers it
abbrev pub IsOffered : Point → List Point → List Point → Type 0
IsOffered n old new =
    (IsCoveredBy (map offer_of old) (offer_of n) × (new ≡ old))
    ⊎ ((IsCoveredBy (map offer_of old) (offer_of n) → ⊥) × (new ≡ put_point n old))
