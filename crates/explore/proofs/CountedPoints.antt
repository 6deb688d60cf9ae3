-- There are no more points than members that show a cycle.
use Rattle.std.proofs.Common.{◌≡◌, ℕ, ◌≤◌, ◌<◌, ◌⊎◌, true, false, Option, List, [], ◌∷◌, length, map, inl, inr, subst, arith}
use Rattle.std.specs.Cmp.{nat_eq_equiv, unsigned_Decides}
use Rattle.std.specs.List.{AllByRecursion, IsDistinct}
use Rattle.std.specs.Prelude.{◌==◌, Contains, nat_eq}
use Rattle.std.specs.Set.{is_member}
use Rattle.std.proofs.lemmas.Bool.{ne_eqb}
use Rattle.std.proofs.lemmas.List.{length-map}
use Rattle.std.proofs.lemmas.Map.Made.{is_member-Decides, length-le_from_is_member}
use Rattle.sd_base.specs.declared.numbers.Fraction.{Fraction}
use Rattle.sd_base.specs.Net.{Net}
use Rattle.sd_base.proofs.ContainedHavePlaces.{contains-here, contains-later, contains-map, contains-unmap}
use Rattle.storage.specs.ClosedLists.{Entry}
use Rattle.pareto_front.specs.declared.point.Point.{Point}
use Rattle.pareto_front.specs.Offers.{AreAbove, AreInOrder, Offer}
use Rattle.pareto_front.specs.Points.{offer_of}
use Rattle.evaluations.specs.declared.shown.Shown.{Shown}
use Rattle.evaluations.specs.declared.shown.Shown.TheVariants.{Cycle, Blocked}
use Rattle.evaluations.specs.ShownCycles.{shows_cycle}
use Rattle.explore.specs.declared.exploration.Member.{Member}
use Rattle.explore.specs.Explorations.{IsMember, ShowsRate, cycles_in}
use Rattle.explore.specs.inside.Searches.{AreKnown, offers_of}
use Rattle.explore.proofs.PointsFormFront.{zero-test}
use Rattle.explore.proofs.VisitsMatchMembers.{noted-of}

storages : List Offer → List ℕ
storages os = map (λ (o : Offer). o.storage) os

all-apart : (a : ℕ) (p : Offer) (ps : List Offer) → a < p.storage → AreAbove p ps → AllByRecursion (λ (b : ℕ). nat_eq a b ≡ false) (storages (p ∷ ps))
unfolding storages
all-apart a p [] less above = (ne_eqb a p.storage (λ same. omega (arith, less, same)), tt)
all-apart a p (q ∷ ps) less above = (ne_eqb a p.storage (λ same. omega (arith, less, same)), all-apart a q ps (omega (arith, less, above.0)) above.2)

distinct-after : (p : Offer) (ps : List Offer) → AreAbove p ps → IsDistinct nat_eq (storages (p ∷ ps))
unfolding storages IsDistinct
distinct-after p [] above = (tt, tt)
distinct-after p (q ∷ ps) above = (all-apart p.storage q ps above.0 above.2, distinct-after q ps above.2)

distinct-storages : (ps : List Offer) → AreInOrder ps → IsDistinct nat_eq (storages ps)
unfolding storages IsDistinct
distinct-storages [] order = tt
distinct-storages (p ∷ ps) order = distinct-after p ps order

-- offers in order that are all among others are no more than these
no-more : (os ps : List Offer) → AreInOrder ps → ((p : Offer) → Contains ps p → Contains os p) → length ps ≤ length os
unfolding storages
no-more os ps order among =
    let there : (s : ℕ) → is_member nat_eq (storages ps) s ≡ true → is_member nat_eq (storages os) s ≡ true =
    λ s one.
    let p = contains-unmap (λ (o : Offer). o.storage) ps s ((is_member-Decides unsigned_Decides (storages ps) s).0 one) in
    (is_member-Decides unsigned_Decides (storages os) s).1 (subst (Contains (storages os)) p.2 (contains-map (λ (o : Offer). o.storage) os p.0 (among p.0 p.1))) in
    let few = length-le_from_is_member nat_eq_equiv (storages ps) (storages os) (distinct-storages ps order) there in
    omega (arith, few, length-map ps (λ (o : Offer). o.storage), length-map os (λ (o : Offer). o.storage))

-- what runs shows a cycle
running-cycle : (net : Net) (ds : List (Option ℕ)) (states : ℕ) (rate : Fraction) (shown : Shown) → ShowsRate net ds states rate shown → 1 ≤ rate.num → 1 ≤ shows_cycle shown
running-cycle net ds states rate (Cycle cycle) shows runs = omega arith
running-cycle net ds states rate (Blocked counts) shows runs = absurd (omega (arith, shows.2, runs))

offers-few : (net : Net) (states : ℕ) (ms : List Member) → ((m : Member) → Contains ms m → IsMember net states m) → length (offers_of net ms) ≤ cycles_in ms
offers-few net states [] all = omega arith
offers-few net states (m ∷ ms) all = at (zero-test m.rate.num) (offers-few net states ms (λ x one. all x (contains-later m ms x one)))
  where
    at : (((m.rate.num == 0) ≡ true) × (m.rate.num ≡ 0)) ⊎ (((m.rate.num == 0) ≡ false) × (1 ≤ m.rate.num)) → length (offers_of net ms) ≤ cycles_in ms → length (offers_of net (m ∷ ms)) ≤ cycles_in (m ∷ ms)
    at (inl test) later = rw test.0 (omega (arith, later))
    at (inr test) later =
        let shows = running-cycle net m.capacities.capacities states m.rate m.shown (all m (contains-here m ms)).shown test.1 in
        rw test.0 (omega (arith, later, shows))

pub points-few : (net : Net) (states : ℕ) (ms : List Member) (es : List Entry) (points : List Point) → AreKnown net states ms es points → length points ≤ cycles_in ms
points-few net states ms es points known =
    let few = no-more (offers_of net ms) (map offer_of points) known.front.order known.front.among in
    let cycles = offers-few net states ms (λ m one. (noted-of net states ms es m known.noted one).2.member) in
    omega (arith, few, cycles, length-map points offer_of)
