-- A search that has ended is an exploration: its points are the front.
use Rattle.std.proofs.Common.{◌≡◌, ℕ, ◌*◌, ◌≤◌, ◌<◌, ◌⊎◌, true, false, Option, List, [], ◌∷◌, length, map, inl, inr, ⊎_elim, refl, sym, ap, ◌∙◌, subst, arith}
use Rattle.std.specs.Prelude.{◌==◌, Contains, slice_index, slice_index_or}
use Rattle.std.proofs.lemmas.List.Elements.{Contains-get_or, at_from_Contains}
use Rattle.std.proofs.lemmas.Bool.{cases_lt, cases_Bool, true≢false}
use Rattle.std.proofs.lemmas.Bool.Decides.{Decides-eqb}
use Rattle.sd_base.specs.declared.limits.Limits.{Limits}
use Rattle.sd_base.specs.declared.limits.TheConstants.{STORAGE}
use Rattle.sd_base.specs.Net.{Net}
use Rattle.sd_base.specs.Lawful.{Lawful}
use Rattle.sd_base.specs.Rates.{Rate}
use Rattle.sd_base.proofs.LeastMultiplesDivide.{same_fraction}
use Rattle.sd_base.proofs.LoopRates.{one-rate}
use Rattle.sd_base.proofs.LawfulIsRegular.{balanced}
use Rattle.sd_base.proofs.ElementsKeepPlaces.{map-map}
use Rattle.storage.specs.BoundedNets.{bound}
use Rattle.storage.specs.CapacityOrder.{no_later}
use Rattle.storage.specs.Distributions.{AtMost, IsDistribution, storage_of}
use Rattle.storage.specs.ParetoPoints.{IsFront, IsPareto, IsReachedPair, Reaches, no_pair}
use Rattle.storage.specs.ClosedLists.{AgreesOn, Entry, HasEntry, IsClosed, IsFrontOver, entry_at, no_entry}
use Rattle.storage.specs.Steps.{IsOnGrid}
use Rattle.storage.proofs.MembersCover.{covered, net-above, net-bounds}
use Rattle.storage.proofs.EasingKeepsSchedules.{eases-rates}
use Rattle.storage.proofs.DistributionsShareLaws.{within-lawful}
use Rattle.storage.proofs.RoundingKeepsNeeds.{bound-eases, more-eases}
use Rattle.storage.proofs.FileChannels.{plain-no_spaces}
use Rattle.storage.proofs.FrontsFromMembers.{AreExact, front-over, less_on, no_less, pareto-listed}
use Rattle.sd_base.proofs.ContainedHavePlaces.{contains-here, contains-later, contains-none, contains-cases, contains-map, contains-unmap}
use Rattle.storage.specs.StorageOrder.{AreInOrder, stepped}
use Rattle.pareto_front.specs.declared.point.Point.{Point}
use Rattle.pareto_front.specs.Offers.{AreAbove, AreInOrder as AreRising, Covers, IsCoveredBy, Offer}
use Rattle.pareto_front.specs.Points.{offer_of}
use Rattle.explore.specs.declared.exploration.Member.{Member}
use Rattle.levels.specs.Visits.{led_by, visited, visits_of}
use Rattle.levels.proofs.EntriesAreVisits.{has-entry}
use Rattle.explore.specs.Reachable.{IsExplorable, IsReachable}
use Rattle.explore.specs.Explorations.{HasCover, IsExploration, ShowsChannel, capacities_of, pair_of}
use Rattle.explore.specs.inside.Searches.{IsEnded, IsNoted, offer_for, offers_of}
use Rattle.explore.proofs.VisitsMatchMembers.{entry-visit, led-member, noted-at, noted-of, visited-members}
use Rattle.explore.proofs.OfferFronts.{front-of_offers, pair_of as offer_pair}

pub zero-test : (n : ℕ) → (((n == 0) ≡ true) × (n ≡ 0)) ⊎ (((n == 0) ≡ false) × (1 ≤ n))
zero-test n =
    ⊎_elim
    (λ (h : (n == 0) ≡ true). inl (h, (Decides-eqb n 0).0 h))
    (λ (h : (n == 0) ≡ false). inr (h, ⊎_elim (λ (less : n < 1). absurd (true≢false (sym ((Decides-eqb n 0).1 (omega arith)) ∙ h))) (λ (some : 1 ≤ n). some) (cases_lt n 1)))
    (cases_Bool (n == 0))

pub offer-there : (net : Net) (ms : List Member) (m : Member) → Contains ms m → 1 ≤ m.rate.num → Contains (offers_of net ms) (offer_for net m)
offer-there net [] m is some = absurd (contains-none m is)
offer-there net (x ∷ ms) m is some = at (zero-test x.rate.num) (λ later. offer-there net ms m later some)
  where
    at : (((x.rate.num == 0) ≡ true) × (x.rate.num ≡ 0)) ⊎ (((x.rate.num == 0) ≡ false) × (1 ≤ x.rate.num)) → (Contains ms m → Contains (offers_of net ms) (offer_for net m)) → Contains (offers_of net (x ∷ ms)) (offer_for net m)
    at (inl test) rest = rw test.0 (⊎_elim (λ (same : x ≡ m). absurd (let none : m.rate.num ≡ 0 = subst (λ (y : Member). y.rate.num ≡ 0) same test.1 in omega arith)) rest (contains-cases x ms m is))
    at (inr test) rest = rw test.0 (⊎_elim (λ (same : x ≡ m). subst (λ (y : Member). Contains (offer_for net x ∷ offers_of net ms) (offer_for net y)) same (contains-here (offer_for net x) (offers_of net ms))) (λ (later : Contains ms m). contains-later (offer_for net x) (offers_of net ms) (offer_for net m) (rest later)) (contains-cases x ms m is))

abbrev pub IsOfferOf : Net → List Member → Offer → Type 0
IsOfferOf net ms o = (m : Member) × Contains ms m × (offer_for net m ≡ o) × (1 ≤ m.rate.num)

pub offer-from : (net : Net) (ms : List Member) (o : Offer) → Contains (offers_of net ms) o → IsOfferOf net ms o
offer-from net [] o is = absurd (contains-none o is)
offer-from net (x ∷ ms) o is = at (zero-test x.rate.num) (λ later. offer-from net ms o later)
  where
    further : IsOfferOf net ms o → IsOfferOf net (x ∷ ms) o
    further found = (found.0, contains-later x ms found.0 found.1, found.2, found.3)

    at : (((x.rate.num == 0) ≡ true) × (x.rate.num ≡ 0)) ⊎ (((x.rate.num == 0) ≡ false) × (1 ≤ x.rate.num)) → (Contains (offers_of net ms) o → IsOfferOf net ms o) → IsOfferOf net (x ∷ ms) o
    at (inl test) rest = further (rest (rw test.0 at is))
    at (inr test) rest = ⊎_elim (λ (same : offer_for net x ≡ o). (x, contains-here x ms, same, test.1)) (λ (later : Contains (offers_of net ms) o). further (rest later)) (contains-cases (offer_for net x) (offers_of net ms) o (rw test.0 at is))

-- of offers in order, the one with the storage and the rate of another one is the one that covers it

above-one : (p : Offer) (ps : List Offer) (q : Offer) → AreAbove p ps → Contains ps q → (p.storage < q.storage) × (p.rate.num * q.rate.den < q.rate.num * p.rate.den)
above-one p [] q above is = absurd (contains-none q is)
above-one p (r ∷ ps) q above is =
    ⊎_elim
    (λ (same : r ≡ q). subst (λ (x : Offer). (p.storage < x.storage) × (p.rate.num * x.rate.den < x.rate.num * p.rate.den)) same (above.0, above.1))
    (λ (later : Contains ps q).
    let next = above-one r ps q above.2 later in
    (omega (arith, above.0, next.0), less_on p.rate.num p.rate.den r.rate.num r.rate.den q.rate.num q.rate.den p.rate.positive r.rate.positive q.rate.positive above.1 (omega (arith, next.1))))
    (contains-cases r ps q is)

pub covering-one : (ps : List Offer) (o : Offer) → IsCoveredBy ps o → (q : Offer) × Contains ps q × Covers q o
covering-one [] o covered = absurd covered
covering-one (p ∷ ps) o (inl covers) = (p, contains-here p ps, covers)
covering-one (p ∷ ps) o (inr later) = let found = covering-one ps o later in (found.0, contains-later p ps found.0 found.1, found.2)

rest-rising : (p : Offer) (ps : List Offer) → AreAbove p ps → AreRising ps
rest-rising p [] above = tt
rest-rising p (q ∷ ps) above = above.2

same-covers : (ps : List Offer) (p o : Offer) → AreRising ps → Contains ps p → IsCoveredBy ps o → o.storage ≡ p.storage → o.rate.num * p.rate.den ≡ p.rate.num * o.rate.den → Covers p o
same-covers [] p o order is covered storage rate = absurd covered
same-covers (q ∷ ps) p o order is covered storage rate = at (contains-cases q ps p is) covered (λ later under. same-covers ps p o (rest-rising q ps order) later under storage rate)
  where
    at : (q ≡ p) ⊎ Contains ps p → IsCoveredBy (q ∷ ps) o → (Contains ps p → IsCoveredBy ps o → Covers p o) → Covers p o
    at (inl same) (inl covers) rest = subst (λ (x : Offer). Covers x o) same covers
    at (inl same) (inr later) rest =
        let found = covering-one ps o later in
        let above = above-one q ps found.0 order found.1 in
        let level : q.storage ≡ p.storage = ap (λ (x : Offer). x.storage) same in
        absurd (omega (arith, above.0, found.2.storage, level, storage))
    at (inr later) (inl covers) rest =
        let above = above-one q ps p order later in
        let no_more : p.rate.num * q.rate.den ≤ q.rate.num * p.rate.den = no_less p.rate.num p.rate.den o.rate.num o.rate.den q.rate.num q.rate.den o.rate.positive (omega arith) covers.rate in
        absurd (omega (arith, above.1, no_more))
    at (inr later) (inr under) rest = rest later under

-- more room doesn't lower the rate
more-room : (net : Net) → Lawful net → (ds es : List (Option ℕ)) (p q x y : ℕ) → AtMost ds es → Rate (bound net ds) p q → Rate (bound net es) x y → p * y ≤ x * q
more-room net laws ds es p q x y most one other =
    eases-rates (bound net ds) (bound net es) (bound-eases net ds es (more-eases 0 net.channels ds es most)) laws.some_actor ((balanced net laws).fires 0 laws.some_actor) p q x y one other

module _ (net : Net) (laws : Lawful net) (can : IsExplorable net) (limits : Limits) (small : limits.total ≤ STORAGE) (members : List Member) (points : List Point) (ended : IsEnded net limits members points) where
  lawful-at : (ds : List (Option ℕ)) → (m : Member) → Contains members m → IsDistribution net.channels ds → storage_of net.channels ds ≤ limits.total → Lawful (bound net ds)
  lawful-at ds m one dist within =
      let mine = ended.candidates m one in
      within-lawful net laws (plain-no_spaces net can.plain) m.capacities.capacities ds mine.distribution (can.few m.capacities.capacities mine.distribution) dist (omega (arith, small, within))

  noted : (i : ℕ) → i < length ended.entries → (m : Member) × Contains members m × IsNoted net limits.states m (entry_at ended.entries i)
  noted i below = noted-at net limits.states members ended.entries (entry_at ended.entries i) ended.known.noted (Contains-get_or ended.entries i no_entry below)

  nexts : (i j : ℕ) → i < length ended.entries → j < length (entry_at ended.entries i).shown →
      storage_of net.channels (stepped net.channels (entry_at ended.entries i).capacities (slice_index (entry_at ended.entries i).shown j)) ≤ limits.total →
      HasEntry ended.entries (stepped net.channels (entry_at ended.entries i).capacities (slice_index (entry_at ended.entries i).shown j))
  nexts i j below shown within =
      let e : Entry = entry_at ended.entries i in
      let c : ℕ = slice_index (entry_at ended.entries i).shown j in
      has-entry ended.entries (stepped net.channels e.capacities c)
      (ended.visits.next (led_by e.capacities e.shown) (stepped net.channels e.capacities c) (entry-visit ended.entries e (Contains-get_or ended.entries i no_entry below)) (c, Contains-get_or (entry_at ended.entries i).shown j 0 shown, refl) within)

  bounds : (i : ℕ) → i < length ended.entries → (ds : List (Option ℕ)) → IsDistribution net.channels ds → storage_of net.channels ds ≤ limits.total → AtMost (entry_at ended.entries i).capacities ds → AgreesOn (entry_at ended.entries i).shown (entry_at ended.entries i).capacities ds → (p q : ℕ) → Rate (bound net ds) p q → p * (entry_at ended.entries i).den ≤ (entry_at ended.entries i).num * q
  bounds i below ds dist within most agrees p q rate =
      let n = noted i below in
      (subst (λ (x : Entry). AtMost x.capacities ds → AgreesOn (entry_at ended.entries i).shown x.capacities ds → p * x.den ≤ x.num * q) (sym n.2.is) (λ under same. n.2.bounds ds p q under same (lawful-at ds n.0 n.1 dist within) rate)) most agrees

  closed : IsClosed net limits.total ended.entries
  closed = record {
    corner = ended.corner;
    is_corner = ended.is_corner;
    start = λ fits. has-entry ended.entries ended.corner (ended.visits.begins fits);
    distributions = λ i below. let n = noted i below in subst (λ (x : Entry). IsDistribution net.channels x.capacities) (sym n.2.is) (ended.candidates n.0 n.1).distribution;
    grid = λ i below. let n = noted i below in subst (λ (x : Entry). IsOnGrid net.channels x.capacities) (sym n.2.is) (ended.candidates n.0 n.1).grid;
    within = λ i below. let n = noted i below in subst (λ (x : Entry). storage_of net.channels x.capacities ≤ limits.total) (sym n.2.is) (ended.candidates n.0 n.1).within;
    next = nexts;
    positive = λ i below. let n = noted i below in subst (λ (x : Entry). 1 ≤ x.den) (sym n.2.is) n.0.rate.positive;
    above = net-above net laws limits.total ended.corner ended.is_corner;
    bounds = λ i below. net-bounds net laws limits.total (entry_at ended.entries i) (bounds i below);
  }

  exact : AreExact net ended.entries
  exact i below runs = let n = noted i below in subst (λ (x : Entry). Rate (bound net x.capacities) x.num x.den) (sym n.2.is) n.2.member.rate

  member-rate : (m : Member) → Contains members m → Rate (bound net m.capacities.capacities) m.rate.num m.rate.den
  member-rate m one = (noted-of net limits.states members ended.entries m ended.known.noted one).2.member.rate

  reached-offer : (o : Offer) → Contains (map offer_of points) o → (m : Member) × Contains members m × (offer_for net m ≡ o) × Reaches net limits.total o.storage o.rate.num o.rate.den o.capacities
  reached-offer o one =
      let from = offer-from net members o (ended.known.front.among o one) in
      let mine = ended.candidates from.0 from.1 in
      (from.0, from.1, from.2, subst (λ (x : Offer). Reaches net limits.total x.storage x.rate.num x.rate.den x.capacities) from.2 (record { distribution = mine.distribution; total = refl; within = mine.within; rate = member-rate from.0 from.1; runs = from.3 }))

  over : IsFrontOver net limits.total ended.entries (map offer_pair (map offer_of points))
  over = front-of_offers net limits.total ended.entries (map offer_of points) ended.known.front.order
      (λ i below.
      let o = contains-unmap offer_pair (map offer_of points) (slice_index_or (map offer_pair (map offer_of points)) i no_pair) (Contains-get_or (map offer_pair (map offer_of points)) i no_pair below) in
      let reaches = reached-offer o.0 o.1 in
      subst (IsReachedPair net limits.total) o.2 (o.0.capacities, reaches.3))
      (λ i below runs.
      let n = noted i below in
      let some : 1 ≤ n.0.rate.num = subst (λ (x : Entry). 1 ≤ x.num) n.2.is runs in
      record {
        offer = offer_for net n.0;
        storage = sym (ap (λ (x : Entry). storage_of net.channels x.capacities) n.2.is);
        num = sym (ap (λ (x : Entry). x.num) n.2.is);
        den = sym (ap (λ (x : Entry). x.den) n.2.is);
        covered = ended.known.front.covers (offer_for net n.0) (offer-there net members n.0 n.1 some);
      })

  front : IsFront net limits.total (map pair_of points)
  front = subst (IsFront net limits.total) (map-map offer_pair offer_of points) (front-over net laws limits.total ended.entries (map offer_pair (map offer_of points)) closed over)

  pareto : (p : Point) → Contains points p → IsPareto net limits.total (pair_of p)
  pareto p one =
      let at = at_from_Contains (map pair_of points) (pair_of p) (contains-map pair_of points p one) in
      subst (IsPareto net limits.total) (at.2 no_pair) (front.points at.0 at.1)

  least : (p : Point) → Contains points p → (ds : List (Option ℕ)) → Reaches net limits.total p.total p.rate.num p.rate.den ds → no_later p.capacities.capacities ds ≡ true
  least p one ds reaches =
      let has = pareto-listed net laws limits.total ended.entries closed exact (pair_of p) (pareto p one) ds reaches in
      let n = noted has.0 has.1 in
      let same : n.0.capacities.capacities ≡ ds = sym (ap (λ (x : Entry). x.capacities) n.2.is) ∙ has.2 in
      let mine : Rate (bound net ds) n.0.rate.num n.0.rate.den = subst (λ (es : List (Option ℕ)). Rate (bound net es) n.0.rate.num n.0.rate.den) same n.2.member.rate in
      let fits : storage_of net.channels ds ≤ limits.total = omega (arith, reaches.total, reaches.within) in
      let rates = one-rate (bound net ds) n.0.rate.num n.0.rate.den p.rate.num p.rate.den (lawful-at ds n.0 n.1 reaches.distribution fits) mine reaches.rate in
      let some : 1 ≤ n.0.rate.num = omega (arith, rates.0, reaches.runs) in
      let covered = ended.known.front.covers (offer_for net n.0) (offer-there net members n.0 n.1 some) in
      let storage : storage_of net.channels n.0.capacities.capacities ≡ p.total = ap (storage_of net.channels) same ∙ reaches.total in
      let cross : n.0.rate.num * p.rate.den ≡ p.rate.num * n.0.rate.den = ap (λ (x : ℕ). x * p.rate.den) rates.0 ∙ ap (λ (x : ℕ). p.rate.num * x) (sym rates.1) in
      let covers : Covers (offer_of p) (offer_for net n.0) = same-covers (map offer_of points) (offer_of p) (offer_for net n.0) ended.known.front.order (contains-map offer_of points p one) covered storage cross in
      subst (λ (es : List (Option ℕ)). no_later p.capacities.capacities es ≡ true) same (covers.tie (sym storage) cross)

  same-visits : visited (visits_of ended.entries) ≡ capacities_of members
  same-visits = visited-members net limits.states members ended.entries ended.known.noted

  is-member : (ds : List (Option ℕ)) → Contains (visited (visits_of ended.entries)) ds → Contains (capacities_of members) ds
  is-member ds one = subst (λ (xs : List (List (Option ℕ))). Contains xs ds) same-visits one

  is-visit : (ds : List (Option ℕ)) → Contains (capacities_of members) ds → Contains (visited (visits_of ended.entries)) ds
  is-visit ds one = subst (λ (xs : List (List (Option ℕ))). Contains xs ds) (sym same-visits) one

  follows : (m : Member) (c : ℕ) → Contains members m → ShowsChannel net m.capacities.capacities m.shown c → storage_of net.channels (stepped net.channels m.capacities.capacities c) ≤ limits.total → Contains (capacities_of members) (stepped net.channels m.capacities.capacities c)
  follows m c one shows fits =
      let e = noted-of net limits.states members ended.entries m ended.known.noted one in
      let same : e.0.capacities ≡ m.capacities.capacities = ap (λ (x : Entry). x.capacities) e.2.is in
      is-member (stepped net.channels m.capacities.capacities c)
      (ended.visits.next (led_by e.0.capacities e.0.shown) (stepped net.channels m.capacities.capacities c) (entry-visit ended.entries e.0 e.1)
      (c, (e.2.shows c).1 shows, ap (λ (ds : List (Option ℕ)). stepped net.channels ds c) (sym same)) fits)

  -- each distribution that reaches a point is a member
  all-members : (p : Point) (ds : List (Option ℕ)) → Contains points p → Reaches net limits.total p.total p.rate.num p.rate.den ds → Contains (capacities_of members) ds
  all-members p ds one reaches =
      let has = pareto-listed net laws limits.total ended.entries closed exact (pair_of p) (pareto p one) ds reaches in
      let n = noted has.0 has.1 in
      let same : n.0.capacities.capacities ≡ ds = sym (ap (λ (x : Entry). x.capacities) n.2.is) ∙ has.2 in
      subst (Contains (capacities_of members)) same (contains-map (λ (x : Member). x.capacities.capacities) members n.0 n.1)

  -- each distribution with a rate above 0 has a member that is at most it, whose rate is as great and, since more room loses
  -- nothing, no greater
  covers-reached : (storage num den : ℕ) (ds : List (Option ℕ)) → Reaches net limits.total storage num den ds → HasCover members ds num den
  covers-reached storage num den ds reaches =
      let cover = covered net laws limits.total ended.entries closed storage num den ds reaches in
      let n = noted cover.place cover.below in
      let most : AtMost n.0.capacities.capacities ds = subst (λ (x : Entry). AtMost x.capacities ds) n.2.is cover.most in
      let no_less : num * n.0.rate.den ≤ n.0.rate.num * den = subst (λ (x : Entry). num * x.den ≤ x.num * den) n.2.is cover.bounds in
      let no_more : n.0.rate.num * den ≤ num * n.0.rate.den = more-room net laws n.0.capacities.capacities ds n.0.rate.num n.0.rate.den num den most n.2.member.rate reaches.rate in
      let same = same_fraction n.0.rate.num n.0.rate.den num den n.2.member.rate.positive reaches.rate.positive n.2.member.rate.lowest reaches.rate.lowest (omega (arith, no_less, no_more)) in
      record { member = n.0; among = n.1; most = most; num_is = same.0; den_is = same.1 }

  pub explored : IsExploration net limits members points
  explored = record {
    front = front;
    reached = λ p one.
        let at = reached-offer (offer_of p) (contains-map offer_of points p one) in
        record { reaches = at.3; least = least p one; found = ended.known.tables p one };
    listed = λ p one.
        let at = reached-offer (offer_of p) (contains-map offer_of points p one) in
        subst (Contains (capacities_of members)) (ap (λ (o : Offer). o.capacities) at.2) (contains-map (λ (x : Member). x.capacities.capacities) members at.0 at.1);
    all_listed = all-members;
    covered = covers-reached;
    evaluated = λ m one. (noted-of net limits.states members ended.entries m ended.known.noted one).2.member;
    reachable = λ ds one. let m = contains-unmap (λ (x : Member). x.capacities.capacities) members ds one in subst (IsReachable net limits.total) m.2 (ended.candidates m.0 m.1).reachable;
    order = subst (AreInOrder net.channels) same-visits ended.visits.order;
    start = record { corner = ended.corner; is_corner = ended.is_corner; start = λ fits. is-member ended.corner (ended.visits.begins fits) };
    closed = follows;
    led = λ ds one. led-member net limits.states members ended.entries ended.known.noted ended.corner ended.is_corner ds (ended.visits.led ds (is-visit ds one));
    few = ended.few;
  }
