-- The search by the bounds of lesser rates leaves what is due, and what a telling holds back of the first vector that it leaves
-- is that vector.
use Rattle.std.proofs.Common.{◌≡◌, ℕ, ◌≤◌, ◌<◌, Option, Some, List, length, ⊎_elim, sym, subst, arith}
use Rattle.std.specs.Prelude.{All, Contains, slice_get, slice_index}
use Rattle.std.proofs.lemmas.Bool.{cases_lt}
use Rattle.std.proofs.lemmas.List.{take_all}
use Rattle.std.proofs.lemmas.List.Elements.{All-contains}
use Rattle.sd_base.proofs.ContainedHavePlaces.{get-contains}
use Rattle.sd_base.specs.declared.limits.Limits.{Limits}
use Rattle.sd_base.specs.Net.{Net}
use Rattle.covers.specs.declared.bound.Bound.{Bound}
use Rattle.covers.specs.declared.lattice.Axis.{Axis}
use Rattle.covers.specs.declared.lattice.Lattice.{Lattice}
use Rattle.covers.specs.declared.search.Search.{Search}
use Rattle.covers.specs.Bounds.{IsAtMost, IsCovered}
use Rattle.covers.specs.Lattices.{IsAmong, IsOnLattice, storage_of}
use Rattle.covers.specs.Searches.{IsNotAfter, IsSettled, IsUncovered}
use Rattle.covers.proofs.FoundNodesDecide.{same-vector}
use Rattle.covers.proofs.StorageRises.{storage-le}
use Rattle.walks.specs.declared.telling.Telling.{Telling}
use Rattle.walks.specs.Tellings.{IsUnder}
use Rattle.pareto_search.specs.declared.searching.Due.{Due}
use Rattle.pareto_search.specs.declared.searching.Searching.{Searching}
use Rattle.pareto_search.specs.inside.Firsts.{IsFirstAt, IsLeft, IsSlower}
use Rattle.pareto_search.specs.inside.Grounds.{IsGround}
use Rattle.pareto_search.specs.inside.Knowledge.{IsAbove, IsTold}
use Rattle.pareto_search.specs.inside.Turns.{HasBound, IsDue, IsSettling}
use Rattle.pareto_search.proofs.RateOrder.{above-from, above-never, above-on, above-or, most-on}
use Rattle.pareto_search.proofs.SlowCovered.{told-rate, told-slow}
use Rattle.pareto_search.proofs.SlowerBounds.{HasSlower}
use Rattle.pareto_search.proofs.ToldBounds.{covers-bounding}

module _ (net : Net) (limits : Limits) (corner : List (Option ℕ)) (lattice : Lattice) (base : IsGround net limits corner lattice) (due : Due) (s : Searching) (is : IsSettling net limits corner lattice due s) where
  at-due : IsDue lattice s.known.tellings.items s.below due.total s.bounds.best (Some due)
  at-due = subst (IsDue lattice s.known.tellings.items s.below due.total s.bounds.best) is.is_due is.standing.due

  told-at : (t : Telling) → Contains s.known.tellings.items t → IsTold net limits corner lattice t
  told-at t one = All-contains (IsTold net limits corner lattice) s.known.tellings.items t is.standing.known.told one

  pub due-runs : IsAbove due.rate s.below
  due-runs = at-due.0.above

  pub due-within : due.total ≤ lattice.limit
  due-within = let among = (told-at at-due.0.telling at-due.0.among).among in omega (arith, among.within, at-due.0.storage)

  module _ (n : Search) (slower : IsSlower lattice due s.known.tellings.items n) where
    among-there : (ks : List ℕ) → IsAmong lattice ks → storage_of lattice.axes ks ≤ due.total → IsAmong n.lattice ks
    among-there ks among low = record {
      on = subst (λ (axes : List Axis). IsOnLattice axes ks) (sym slower.axes) among.on;
      within = subst (λ (axes : List Axis). storage_of axes ks ≤ n.lattice.limit) (sym slower.axes) (omega (arith, low, slower.limit));
    }

    pub low-there : (ks : List ℕ) → IsAmong n.lattice ks → storage_of lattice.axes ks ≤ due.total
    low-there ks among = subst (λ (axes : List Axis). storage_of axes ks ≤ due.total) slower.axes (omega (arith, among.within, slower.limit))

    pub among-back : (ks : List ℕ) → IsAmong n.lattice ks → IsAmong lattice ks
    among-back ks among = record {
      on = subst (λ (axes : List Axis). IsOnLattice axes ks) slower.axes among.on;
      within = omega (arith, low-there ks among, due-within);
    }

    -- a covered vector has the rate of no telling that isn't slower
    covered-slower : (t : Telling) → Contains s.known.tellings.items t → IsCovered n.bounds.items n.best t.capacities → IsAbove due.rate t.rate
    covered-slower t one covered =
        let has : HasSlower s.known.tellings.items due.rate covered.0 = slower.only covered.0 covered.1 in
        let mine : IsTold net limits corner lattice t = told-at t one in
        let slow : IsAtMost t.rate has.0.rate = (told-at has.0 has.1).bounds t.capacities mine.among ((has.3.covers t.capacities).0 covered.3) t.rate.num t.rate.den (told-rate net limits corner lattice base t mine) in
        above-from t.rate has.0.rate due.rate slow has.2

    -- so something is left
    pub some-left : IsSettled n → ⊥
    some-left settled =
        let t : Telling = at-due.0.telling in
        let mine : IsTold net limits corner lattice t = told-at t at-due.0.among in
        let low : storage_of lattice.axes t.capacities ≤ due.total = omega (arith, at-due.0.storage) in
        let less : IsAbove due.rate t.rate = covered-slower t at-due.0.among (settled t.capacities (among-there t.capacities mine.among low)) in
        above-never due.rate due.rate (subst (IsAbove due.rate) at-due.0.rate less) (omega arith)

    pub left : IsLeft lattice s.known.tellings.items n
    left = record { due = due; slower = slower; within = due-within; some = some-left }

    -- what a telling holds back of the first vector that is left is this vector
    module _ (goal : List ℕ) (uncovered : IsUncovered n goal) (first : (ks : List ℕ) → IsUncovered n ks → IsNotAfter goal ks) (place : ℕ) (t : Telling) (at : slice_get s.known.tellings.items place ≡ Some t) (under : IsUnder t.capacities goal) (covers : All (λ (c : ℕ). slice_index goal c ≤ slice_index t.capacities c) t.enlarge) where
      here : Contains s.known.tellings.items t
      here = get-contains s.known.tellings.items place t at

      mine : IsTold net limits corner lattice t
      mine = told-at t here

      goal-among : IsAmong lattice goal
      goal-among = among-back goal uncovered.among

      -- its rate isn't lesser, since its bound covers the vector, nor greater, since none is
      no-less : IsAtMost due.rate t.rate
      no-less =
          ⊎_elim
          (λ (less : IsAbove due.rate t.rate).
          let has : HasBound n.bounds.items t = slower.each t here less in
          absurd (uncovered.free (has.0, has.1, All-contains (λ (b : Bound). IsAtMost b.rate n.best) n.bounds.items has.0 slower.force has.1, (has.2.covers goal).1 (covers-bounding t mine.bounding goal covers))))
          (λ (h : IsAtMost due.rate t.rate). h)
          (above-or due.rate t.rate)

      no-more : IsAtMost t.rate due.rate
      no-more =
          let most : All (λ (x : Telling). IsAtMost x.rate s.bounds.best) s.known.tellings.items = subst (All (λ (x : Telling). IsAtMost x.rate s.bounds.best)) (take_all (length s.known.tellings.items) s.known.tellings.items (omega arith)) is.standing.most in
          most-on t.rate s.bounds.best due.rate (All-contains (λ (x : Telling). IsAtMost x.rate s.bounds.best) s.known.tellings.items t most here) at-due.1.0

      -- and with less storage it would be no greater than that of the last point
      full : storage_of lattice.axes t.capacities ≡ due.total
      full =
          let needs : storage_of lattice.axes t.capacities ≤ storage_of lattice.axes goal = storage-le lattice.axes t.capacities goal goal-among.on.long under in
          let low : storage_of lattice.axes goal ≤ due.total = low-there goal uncovered.among in
          ⊎_elim
          (λ (less : storage_of lattice.axes t.capacities < due.total).
          absurd (above-never t.rate s.below (above-on s.below due.rate t.rate at-due.0.above no-less)
          (told-slow net limits corner lattice base s.bounds.bounds.items is.standing.valid s.below t mine
          (is.standing.settled t.capacities mine.among less))))
          (λ (no_less : due.total ≤ storage_of lattice.axes t.capacities). omega (arith, no_less, needs, low))
          (cases_lt (storage_of lattice.axes t.capacities) due.total)

      same : t.capacities ≡ goal
      same =
          let needs : storage_of lattice.axes t.capacities ≤ storage_of lattice.axes goal = storage-le lattice.axes t.capacities goal goal-among.on.long under in
          let low : storage_of lattice.axes goal ≤ due.total = low-there goal uncovered.among in
          same-vector lattice.axes t.capacities goal mine.among.on.long goal-among.on.long under (omega (arith, full, needs, low))

      pub first-held : IsFirstAt lattice due s.known.tellings.items place
      first-held = record {
        telling = t;
        at = at;
        storage = full;
        rate = (no-less, no-more);
        first = λ ks among within free.
            let uncovered_too : IsUncovered n ks = record {
              among = among-there ks among within;
              free = λ covered.
                  let has : HasSlower s.known.tellings.items due.rate covered.0 = slower.only covered.0 covered.1 in
                  free has.0 has.1 has.2 ((has.3.covers ks).0 covered.3);
            } in
            subst (λ (xs : List ℕ). IsNotAfter xs ks) (sym same) (first ks uncovered_too);
      }
