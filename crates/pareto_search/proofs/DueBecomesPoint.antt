-- What is due becomes a point, and the search goes on past its storage.
use Rattle.std.proofs.Common.{◌≡◌, ◌≢◌, ℕ, ◌+◌, ◌*◌, ◌≤◌, ◌<◌, true, Option, None, Some, List, [], ◌∷◌, ◌++◌, length, take, ⊎_elim, sym, ◌∙◌, subst, arith}
use Rattle.std.specs.Prelude.{All, Contains, slice_get, slice_index}
use Rattle.std.specs.declared.cmp.Ordering.TheVariants.{Greater}
use Rattle.std.specs.Ordering.{nat_cmp}
use Rattle.std.specs.Cmp.Lexicographic.{slice_cmp}
use Rattle.std.proofs.lemmas.Bool.{cases_lt}
use Rattle.std.proofs.lemmas.List.{drop_all, take_all}
use Rattle.std.proofs.lemmas.List.Elements.{All-contains, All-nil, All-push, Contains-append_left, Contains-push, Contains-push_cases}
use Rattle.sd_base.proofs.ContainedHavePlaces.{contains-here, contains-later, get-contains}
use Rattle.sd_base.specs.declared.limits.Limits.{Limits}
use Rattle.sd_base.specs.declared.numbers.Fraction.{Fraction}
use Rattle.sd_base.specs.Net.{Net}
use Rattle.sd_base.specs.Rates.{Rate}
use Rattle.lasso.specs.LoopAnswers.{IsFound}
use Rattle.storage.specs.BoundedNets.{bound}
use Rattle.storage.specs.CapacityOrder.{no_later}
use Rattle.storage.specs.Distributions.{IsDistribution}
use Rattle.storage.specs.ParetoPoints.{Reaches}
use Rattle.storage.proofs.FrontsFromMembers.{no_less}
use Rattle.pareto_front.specs.declared.point.Point.{Point}
use Rattle.covers.specs.declared.lattice.Lattice.{Lattice}
use Rattle.covers.specs.Bounds.{IsAtMost}
use Rattle.covers.specs.Lattices.{IsAmong, storage_of as needed}
use Rattle.covers.specs.Searches.{IsNotAfter}
use Rattle.covers.proofs.BoundsStayInForce.{covered-reached}
use Rattle.walks.specs.declared.telling.Telling.{Telling}
use Rattle.explore.specs.Explorations.{IsPoint}
use Rattle.pareto_search.specs.declared.searching.Due.{Due}
use Rattle.pareto_search.specs.declared.searching.Searching.{Searching}
use Rattle.pareto_search.specs.inside.Firsts.{IsFirstAt}
use Rattle.pareto_search.specs.inside.Grounds.{IsGround}
use Rattle.pareto_search.specs.inside.Knowledge.{IsAbove, IsKnown, IsLooped, IsTold}
use Rattle.pareto_search.specs.inside.Turns.{AreRising, HasBound, HasPoint, IsDue, IsPointed, IsPointOf, IsSettling, IsStanding}
use Rattle.pareto_search.specs.inside.Vectors.{bounded_by, vector_of}
use Rattle.pareto_search.proofs.NoLater.{not-after-no-later}
use Rattle.pareto_search.proofs.RateOrder.{above-from, above-most, above-never, above-on, above-runs, most-on}
use Rattle.pareto_search.proofs.ReachedVectors.{HasVector, reached-vector}
use Rattle.pareto_search.proofs.SlowCovered.{covered-slow, told-rate}
use Rattle.pareto_search.proofs.WithinLimit.{flat-storage, on-distribution}

rising-push : (ps : List Point) (p : Point) → AreRising ps → ((q : Point) → Contains ps q → (q.total < p.total) × IsAbove p.rate q.rate) → AreRising (ps ++ p ∷ [])
rising-push [] p rising last = (All-nil (λ (q : Point). (p.total < q.total) × IsAbove q.rate p.rate), tt)
rising-push (x ∷ ps) p rising last = (
  All-push (λ (q : Point). (x.total < q.total) × IsAbove q.rate x.rate) ps p rising.0 (last x (contains-here x ps)),
  rising-push ps p rising.1 (λ q one. last q (contains-later x ps q one)),
)

module _ (net : Net) (limits : Limits) (corner : List (Option ℕ)) (lattice : Lattice) (base : IsGround net limits corner lattice) (due : Due) (s : Searching) (is : IsSettling net limits corner lattice due s) (place : ℕ) (first : IsFirstAt lattice due s.known.tellings.items place) where
  at-due : IsDue lattice s.known.tellings.items s.below due.total s.bounds.best (Some due)
  at-due = subst (IsDue lattice s.known.tellings.items s.below due.total s.bounds.best) is.is_due is.standing.due

  there : Contains s.known.tellings.items first.telling
  there = get-contains s.known.tellings.items place first.telling first.at

  told : IsTold net limits corner lattice first.telling
  told = All-contains (IsTold net limits corner lattice) s.known.tellings.items first.telling is.standing.known.told there

  pub rate-above : IsAbove first.telling.rate s.below
  rate-above = above-on s.below due.rate first.telling.rate at-due.0.above first.rate.0

  -- what needs less has no greater rate than the last point
  slow-below : (ks : List ℕ) → IsAmong lattice ks → needed lattice.axes ks < due.total → (x y : ℕ) → Rate (bound net (bounded_by corner ks)) x y → x * s.below.den ≤ s.below.num * y
  slow-below ks among less =
      covered-slow net limits corner lattice base s.bounds.bounds.items is.standing.valid s.below ks among
      (is.standing.settled ks among less)

  -- ---- the distribution

  mine : IsDistribution net.channels (bounded_by corner first.telling.capacities)
  mine = on-distribution net limits corner lattice base first.telling.capacities told.among.on

  reaches : Reaches net limits.total due.total first.telling.rate.num first.telling.rate.den (bounded_by corner first.telling.capacities)
  reaches = record {
    distribution = mine;
    total = sym (flat-storage net limits corner lattice base first.telling.capacities told.among.on told.flat) ∙ first.storage;
    within = omega (arith, first.storage, told.among.within, base.limit);
    rate = told-rate net limits corner lattice base first.telling told;
    runs = above-runs first.telling.rate s.below rate-above;
  }

  least : (ds : List (Option ℕ)) → Reaches net limits.total due.total first.telling.rate.num first.telling.rate.den ds → no_later (bounded_by corner first.telling.capacities) ds ≡ true
  least ds other =
      let t : Telling = first.telling in
      let v : HasVector net corner lattice due.total t.rate.num t.rate.den ds = reached-vector net limits corner lattice base due.total t.rate.num t.rate.den ds other in
      let full : due.total ≤ needed lattice.axes v.vector
      = ⊎_elim
      (λ (less : needed lattice.axes v.vector < due.total). absurd (above-never t.rate s.below rate-above (slow-below v.vector v.among less t.rate.num t.rate.den v.rate)))
      (λ (h : due.total ≤ needed lattice.axes v.vector). h)
      (cases_lt (needed lattice.axes v.vector) due.total) in
      let uncovered : (u : Telling) → Contains s.known.tellings.items u → IsAbove due.rate u.rate → All (λ (c : ℕ). slice_index v.vector c ≤ slice_index u.capacities c) u.bounding → ⊥
      = λ u one above covers.
      above-never due.rate u.rate above
      (most-on due.rate t.rate u.rate first.rate.0
      ((All-contains (IsTold net limits corner lattice) s.known.tellings.items u is.standing.known.told one).bounds v.vector v.among covers t.rate.num t.rate.den v.rate)) in
      let after : IsNotAfter t.capacities v.vector = first.first v.vector v.among v.low uncovered in
      let order : slice_cmp nat_cmp (vector_of (bounded_by corner t.capacities)) (vector_of (bounded_by corner v.vector)) ≢ Greater
      = subst (λ (xs : List ℕ). IsNotAfter xs (vector_of (bounded_by corner v.vector))) (sym told.flat) (subst (IsNotAfter t.capacities) (sym v.flat) after) in
      subst (λ (es : List (Option ℕ)). no_later (bounded_by corner t.capacities) es ≡ true) (v.full full)
      (not-after-no-later net.channels (bounded_by corner t.capacities) (bounded_by corner v.vector) mine (on-distribution net limits corner lattice base v.vector v.among.on) order)

  -- ---- the point

  module _ (p : Point) (of : IsPointOf net limits.states corner due.total first.telling p) where
    is-point : IsPoint net limits p
    is-point = record {
      reaches = subst (λ (n : ℕ). Reaches net limits.total n p.rate.num p.rate.den p.capacities.capacities) (sym of.total_is)
          (subst (λ (r : Fraction). Reaches net limits.total due.total r.num r.den p.capacities.capacities) (sym of.rate)
          (subst (Reaches net limits.total due.total first.telling.rate.num first.telling.rate.den) (sym of.capacities) reaches));
      least = λ ds other. subst (λ (es : List (Option ℕ)). no_later es ds ≡ true) (sym of.capacities)
          (least ds
          (subst (λ (r : Fraction). Reaches net limits.total due.total r.num r.den ds) of.rate
          (subst (λ (n : ℕ). Reaches net limits.total n p.rate.num p.rate.den ds) of.total_is other)));
      found = subst (λ (es : List (Option ℕ)). IsFound (bound net es) limits.states p.table) (sym of.capacities) of.found;
    }

    point-above : IsAbove p.rate s.below
    point-above = subst (λ (r : Fraction). IsAbove r s.below) (sym of.rate) rate-above

    -- what is faster than the last point needs no less, and is no faster
    faster-point : (storage num den : ℕ) (ds : List (Option ℕ)) → Reaches net limits.total storage num den ds → num * due.rate.den ≤ due.rate.num * den → s.below.num * den < num * s.below.den → HasPoint (s.points.items ++ p ∷ []) storage num den
    faster-point storage num den ds other most above =
        let v : HasVector net corner lattice storage num den ds = reached-vector net limits corner lattice base storage num den ds other in
        let full : due.total ≤ needed lattice.axes v.vector
        = ⊎_elim
        (λ (less : needed lattice.axes v.vector < due.total). absurd (let slow : num * s.below.den ≤ s.below.num * den = slow-below v.vector v.among less num den v.rate in omega (arith, slow, above)))
        (λ (h : due.total ≤ needed lattice.axes v.vector). h)
        (cases_lt (needed lattice.axes v.vector) due.total) in
        let fast : num * first.telling.rate.den ≤ first.telling.rate.num * den = no_less num den due.rate.num due.rate.den first.telling.rate.num first.telling.rate.den due.rate.positive most first.rate.0 in
        record {
          point = p;
          among = Contains-push s.points.items p;
          low = omega (arith, full, v.low, of.total_is);
          fast = subst (λ (r : Fraction). num * r.den ≤ r.num * den) (sym of.rate) fast;
        }

    slower-point : (storage num den : ℕ) → HasPoint s.points.items storage num den → HasPoint (s.points.items ++ p ∷ []) storage num den
    slower-point storage num den has = record { point = has.point; among = Contains-append_left s.points.items (p ∷ []) has.point has.among; low = has.low; fast = has.fast }

    pointed : IsPointed net limits lattice s.known.tellings.items due.rate (due.total + 1) (s.points.items ++ p ∷ [])
    pointed = record {
      reached = λ q one. ⊎_elim (λ (h : Contains s.points.items q). is.standing.pointed.reached q h) (λ (same : p ≡ q). subst (IsPoint net limits) same is-point) (Contains-push_cases s.points.items p q one);
      rising = rising-push s.points.items p is.standing.pointed.rising
          (λ q one. (let early = is.standing.pointed.early q one in omega (arith, early, of.total_is), above-from q.rate s.below p.rate (is.standing.pointed.slow q one) point-above));
      early = λ q one.
          ⊎_elim
          (λ (h : Contains s.points.items q). let early = is.standing.pointed.early q h in omega (arith, early))
          (λ (same : p ≡ q). subst (λ (x : Point). x.total < due.total + 1) same (omega (arith, of.total_is)))
          (Contains-push_cases s.points.items p q one);
      slow = λ q one.
          ⊎_elim
          (λ (h : Contains s.points.items q). most-on q.rate s.below due.rate (is.standing.pointed.slow q h) (above-most due.rate s.below at-due.0.above))
          (λ (same : p ≡ q). subst (λ (x : Point). IsAtMost x.rate due.rate) same (subst (λ (r : Fraction). IsAtMost r due.rate) (sym of.rate) first.rate.1))
          (Contains-push_cases s.points.items p q one);
      told = λ q one.
          ⊎_elim
          (λ (h : Contains s.points.items q). is.standing.pointed.told q h)
          (λ (same : p ≡ q).
          record {
            telling = first.telling;
            among = there;
            storage = subst (λ (x : Point). needed lattice.axes first.telling.capacities ≡ x.total) same (first.storage ∙ sym of.total_is);
            runs = above-runs first.telling.rate s.below rate-above;
          })
          (Contains-push_cases s.points.items p q one);
      all = λ storage num den ds other most.
          ⊎_elim
          (λ (above : s.below.num * den < num * s.below.den). faster-point storage num den ds other most above)
          (λ (no_more : num * s.below.den ≤ s.below.num * den). slower-point storage num den (is.standing.pointed.all storage num den ds other no_more))
          (cases_lt (s.below.num * den) (num * s.below.den));
    }

    -- ---- past its storage

    module _ (u : Searching) (tellings : u.known.tellings.items ≡ s.known.tellings.items) (loops : u.known.loops.items ≡ []) (points : u.points.items ≡ s.points.items ++ p ∷ []) where
      none-above : (t : Telling) → Contains s.known.tellings.items t → IsAbove t.rate due.rate → ⊥
      none-above t one above =
          let most : All (λ (x : Telling). IsAtMost x.rate s.bounds.best) s.known.tellings.items = subst (All (λ (x : Telling). IsAtMost x.rate s.bounds.best)) (take_all (length s.known.tellings.items) s.known.tellings.items (omega arith)) is.standing.most in
          above-never t.rate due.rate above (most-on t.rate s.bounds.best due.rate (All-contains (λ (x : Telling). IsAtMost x.rate s.bounds.best) s.known.tellings.items t most one) at-due.1.0)

      known : IsKnown net limits corner lattice due.rate u.known
      known = record {
        told = subst (All (IsTold net limits corner lattice)) (sym tellings) is.standing.known.told;
        apart = subst (λ (xs : List Telling). (i j : ℕ) (a b : Telling) → i < j → slice_get xs i ≡ Some a → slice_get xs j ≡ Some b → a.capacities ≢ b.capacities) (sym tellings) is.standing.known.apart;
        loops = subst (All (IsLooped net limits.states corner u.known.tellings.items)) (sym loops) (All-nil (IsLooped net limits.states corner u.known.tellings.items));
        kept = λ i t at above. absurd (none-above t (subst (λ (xs : List Telling). Contains xs t) tellings (get-contains u.known.tellings.items i t at)) above);
        few = subst (λ (xs : List Telling). length xs ≤ limits.distributions) (sym tellings) is.standing.known.few;
      }

      pub settled-past : IsStanding net limits corner lattice (due.total + 1) (record { bounds = s.bounds; known = u.known; points = u.points; below = due.rate; due = None })
      settled-past = record {
        searched = is.standing.searched;
        by_storage = is.standing.by_storage;
        lattice_is = is.standing.lattice_is;
        kept = subst (λ (xs : List Telling). All (HasBound s.bounds.bounds.items) (take (length xs) xs)) (sym tellings) is.standing.kept;
        valid = is.standing.valid;
        most = subst (λ (xs : List Telling). All (λ (t : Telling). IsAtMost t.rate s.bounds.best) (take (length xs) xs)) (sym tellings) is.standing.most;
        later = subst (All (λ (t : Telling). needed lattice.axes t.capacities ≤ due.total + 1)) (sym (drop_all (length u.known.tellings.items) u.known.tellings.items (omega arith))) (All-nil (λ (t : Telling). needed lattice.axes t.capacities ≤ due.total + 1));
        known = known;
        settled = λ ks among less. covered-reached s.bounds.bounds.items s.bounds.best due.rate ks at-due.1.0 (is.closed ks among (omega (arith, less)));
        due = at-due.1;
        pointed = subst (λ (xs : List Telling). IsPointed net limits lattice xs due.rate (due.total + 1) u.points.items) (sym tellings) (subst (IsPointed net limits lattice s.known.tellings.items due.rate (due.total + 1)) (sym points) pointed);
      }
