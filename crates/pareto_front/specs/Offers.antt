-- Offers of storage, rate and distribution, and the front of several.
use Rattle.std.specs.Prelude.{◌≡◌, ℕ, ◌*◌, ◌≤◌, ◌<◌, ◌⊎◌, Bool, true, Option, List, [], ◌∷◌, if◌then◌else◌, nat_le}
use Rattle.sd_base.specs.declared.numbers.Fraction.{Fraction}
use Rattle.storage.specs.CapacityOrder.{no_later}

-- a distribution with its storage and the rate of its net
pub record Offer : Type 0 where
  pub storage : ℕ
  pub rate : Fraction
  pub capacities : List (Option ℕ)

-- p has no more storage and no less rate than o and, where both are equal, no later capacities
pub record Covers (p o : Offer) : Type 0 where
  pub storage : p.storage ≤ o.storage
  pub rate : o.rate.num * p.rate.den ≤ p.rate.num * o.rate.den
  pub tie : p.storage ≡ o.storage → o.rate.num * p.rate.den ≡ p.rate.num * o.rate.den → no_later p.capacities o.capacities ≡ true

-- some offer of the list covers o
abbrev pub IsCoveredBy : List Offer → Offer → Type 0
IsCoveredBy [] o = ⊥
IsCoveredBy (p ∷ ps) o = Covers p o ⊎ IsCoveredBy ps o

-- all offers of the list have more storage and more rate than p
abbrev pub AreAbove : Offer → List Offer → Type 0
AreAbove p [] = Unit {0}
AreAbove p (q ∷ qs) = (p.storage < q.storage) × (p.rate.num * q.rate.den < q.rate.num * p.rate.den) × AreAbove q qs

-- each has more storage and more rate than the one before
abbrev pub AreInOrder : List Offer → Type 0
AreInOrder [] = Unit {0}
AreInOrder (p ∷ ps) = AreAbove p ps

-- p has no more rate than n
abbrev pub is_slower : Offer → Offer → Bool
is_slower p n = nat_le (p.rate.num * n.rate.den) (n.rate.num * p.rate.den)

-- what is left of offers of no less storage than n, which n covers as long as their rates are no greater
abbrev pub left_of : Offer → List Offer → List Offer
left_of n [] = []
left_of n (p ∷ ps) = if is_slower p n then left_of n ps else p ∷ ps

-- n in its place, and what it covers left out
abbrev pub put : Offer → List Offer → List Offer
put n [] = n ∷ []
put n (p ∷ ps) = if nat_le n.storage p.storage then n ∷ left_of n (p ∷ ps) else p ∷ put n ps
