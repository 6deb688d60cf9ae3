-- A search that is over has the front.
use Rattle.std.proofs.Common.{◌≡◌, ℕ, zero, suc, ◌*◌, ◌≤◌, ◌<◌, Option, List, [], ◌∷◌, length, map, sym, subst, arith}
use Rattle.std.specs.Prelude.{All, Contains, slice_index_or}
use Rattle.std.proofs.lemmas.List.Elements.{All-map, Contains-get_or, at_from_Contains}
use Rattle.sd_base.proofs.ContainedHavePlaces.{contains-map, contains-none, contains-unmap}
use Rattle.sd_base.specs.declared.limits.Limits.{Limits}
use Rattle.sd_base.specs.Lawful.{Lawful}
use Rattle.sd_base.specs.Net.{Net}
use Rattle.storage.specs.Distributions.{AtMost, storage_of}
use Rattle.storage.specs.ParetoPoints.{IsReachedPair, Pair, no_pair, rating_of}
use Rattle.storage.specs.Steps.{IsCorner, rounded}
use Rattle.storage.proofs.StepsReachMembers.{storage-le}
use Rattle.storage.proofs.CornerStaysBelow.{rounded-most}
use Rattle.storage.proofs.MembersCover.{net-above}
use Rattle.storage.proofs.FrontsFromMembers.{AreLowest, IsBelow, front-from}
use Rattle.pareto_front.specs.declared.point.Point.{Point}
use Rattle.covers.specs.declared.lattice.Lattice.{Lattice}
use Rattle.explore.specs.Explorations.{pair_of}
use Rattle.pareto_search.specs.declared.searching.Searching.{Searching}
use Rattle.pareto_search.specs.TradeOffs.{IsTradeOff}
use Rattle.pareto_search.specs.inside.Grounds.{IsGround}
use Rattle.pareto_search.specs.inside.Knowledge.{IsAbove}
use Rattle.pareto_search.specs.inside.Turns.{AreRising, HasPoint, IsOver}
use Rattle.pareto_search.proofs.ReachedVectors.{HasVector, reached-vector}
use Rattle.pareto_search.proofs.SlowCovered.{covered-slow}

lowest : (net : Net) → AreLowest (rating_of net)
lowest net ds p q rate = (rate.positive, rate.lowest)

abbrev at : List Point → ℕ → Pair
at ps i = slice_index_or (map pair_of ps) i no_pair

-- the points rise pair by pair

later-rises : (p : Point) (ps : List Point) → All (λ (q : Point). (p.total < q.total) × IsAbove q.rate p.rate) ps → (j : ℕ) → j < length (map pair_of ps) → (p.total < (at ps j).storage) × (p.rate.num * (at ps j).den < (at ps j).num * p.rate.den)
later-rises p ps all j below = All-map (λ (x : Pair). (p.total < x.storage) × (p.rate.num * x.den < x.num * p.rate.den)) pair_of ps all j no_pair below

storage-rises : (ps : List Point) → AreRising ps → (i j : ℕ) → i < j → j < length (map pair_of ps) → (at ps i).storage < (at ps j).storage
storage-rises [] rising i j less below = absurd (omega arith)
storage-rises (p ∷ ps) rising i zero less below = absurd (omega arith)
storage-rises (p ∷ ps) rising zero (suc j) less below = (later-rises p ps rising.0 j (omega arith)).0
storage-rises (p ∷ ps) rising (suc i) (suc j) less below = storage-rises ps rising.1 i j (omega arith) (omega arith)

rate-rises : (ps : List Point) → AreRising ps → (i j : ℕ) → i < j → j < length (map pair_of ps) → (at ps i).num * (at ps j).den < (at ps j).num * (at ps i).den
rate-rises [] rising i j less below = absurd (omega arith)
rate-rises (p ∷ ps) rising i zero less below = absurd (omega arith)
rate-rises (p ∷ ps) rising zero (suc j) less below = (later-rises p ps rising.0 j (omega arith)).1
rate-rises (p ∷ ps) rising (suc i) (suc j) less below = rate-rises ps rising.1 i j (omega arith) (omega arith)

-- a point of the points is a place of their pairs
point-below : (ps : List Point) (other : Pair) → HasPoint ps other.storage other.num other.den → IsBelow (map pair_of ps) other
point-below ps other has =
    let place = at_from_Contains (map pair_of ps) (pair_of has.point) (contains-map pair_of ps has.point has.among) in
    record {
      place = place.0;
      below = place.1;
      storage = subst (λ (x : Pair). x.storage ≤ other.storage) (sym (place.2 no_pair)) has.low;
      rate = subst (λ (x : Pair). other.num * x.den ≤ x.num * other.den) (sym (place.2 no_pair)) has.fast;
    }

module _ (net : Net) (limits : Limits) (corner : List (Option ℕ)) (lattice : Lattice) (base : IsGround net limits corner lattice) (s : Searching) (over : IsOver net limits corner lattice s) where
  all-below : (other : Pair) → IsReachedPair net limits.total other → IsBelow (map pair_of s.points.items) other
  all-below other reached =
      let v : HasVector net corner lattice other.storage other.num other.den reached.0 = reached-vector net limits corner lattice base other.storage other.num other.den reached.0 reached.1 in
      let no_more : other.num * s.below.den ≤ s.below.num * other.den
      = covered-slow net limits corner lattice base s.bounds.bounds.items over.standing.valid s.below v.vector v.among
      (over.all v.vector v.among) other.num other.den v.rate in
      point-below s.points.items other (over.standing.pointed.all other.storage other.num other.den reached.0 reached.1 no_more)

  reached-at : (i : ℕ) → i < length (map pair_of s.points.items) → IsReachedPair net limits.total (slice_index_or (map pair_of s.points.items) i no_pair)
  reached-at i below =
      let p : (q : Point) × Contains s.points.items q × (pair_of q ≡ slice_index_or (map pair_of s.points.items) i no_pair) = contains-unmap pair_of s.points.items (slice_index_or (map pair_of s.points.items) i no_pair) (Contains-get_or (map pair_of s.points.items) i no_pair below) in
      subst (IsReachedPair net limits.total) p.2 (p.0.capacities.capacities, (over.standing.pointed.reached p.0 p.1).reaches)

  pub trade-off : IsTradeOff net limits s.points.items
  trade-off = record {
    front = front-from net.channels (rating_of net) (lowest net) limits.total (map pair_of s.points.items)
        (record { storage = storage-rises s.points.items over.standing.pointed.rising; rate = rate-rises s.points.items over.standing.pointed.rising }) reached-at all-below;
    reached = over.standing.pointed.reached;
  }

-- where the corner is past the limit there is no point
pub trade-off-none : (net : Net) → Lawful net → (limits : Limits) (corner : List (Option ℕ)) → IsCorner net.channels corner → limits.total < storage_of net.channels corner → IsTradeOff net limits []
trade-off-none net laws limits corner is_corner past = record {
  front = front-from net.channels (rating_of net) (lowest net) limits.total []
      (record { storage = λ i j less below. absurd (omega (arith, below)); rate = λ i j less below. absurd (omega (arith, below)) })
      (λ i below. absurd (omega (arith, below))) none-reached;
  reached = λ p one. absurd (contains-none p one);
}
  where
    none-reached : (other : Pair) → IsReachedPair net limits.total other → IsBelow [] other
    none-reached other reached =
        let ds : List (Option ℕ) = reached.0 in
        let dist = reached.1.distribution in
        let within : storage_of net.channels ds ≤ limits.total = omega (arith, reached.1.total, reached.1.within) in
        let above : AtMost corner (rounded net.channels ds) = net-above net laws limits.total corner is_corner ds other.num other.den dist within reached.1.rate reached.1.runs in
        absurd (omega (arith, past, within, storage-le net.channels corner (rounded net.channels ds) above, storage-le net.channels (rounded net.channels ds) ds (rounded-most net.channels ds dist)))
