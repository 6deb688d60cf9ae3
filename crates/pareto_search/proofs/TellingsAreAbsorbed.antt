-- One telling more is absorbed: its bound is kept, and a rate above the greatest is due at the floor.
use Rattle.std.proofs.Common.{◌≡◌, ℕ, ◌+◌, ◌≤◌, ◌<◌, ◌⊎◌, Option, None, Some, List, [], ◌∷◌, ◌++◌, drop, length, take, inl, inr, ⊎_elim, refl, sym, ap, ◌∙◌, subst, arith}
use Rattle.std.specs.Prelude.{All, Contains, slice_index_or}
use Rattle.std.proofs.lemmas.Bool.{cases_lt}
use Rattle.std.proofs.lemmas.List.{append-nil, drop_more, take_more}
use Rattle.std.proofs.lemmas.List.Elements.{All-contains, All-head, All-push, All-tail, All-weaker, Contains-append_left, Contains-push}
use Rattle.sd_base.specs.declared.limits.Limits.{Limits}
use Rattle.sd_base.specs.declared.numbers.Fraction.{Fraction}
use Rattle.sd_base.specs.Net.{Net}
use Rattle.covers.specs.declared.bound.Bound.{Bound}
use Rattle.covers.specs.declared.lattice.Lattice.{Lattice}
use Rattle.covers.specs.declared.search.Search.{Search}
use Rattle.covers.specs.Bounds.{IsAtMost, IsCovered}
use Rattle.covers.specs.Lattices.{storage_of}
use Rattle.covers.specs.Searches.{IsSearched}
use Rattle.covers.proofs.BoundsStayInForce.{covered-added, covered-reached}
use Rattle.walks.specs.declared.telling.Telling.{Telling}
use Rattle.pareto_search.specs.declared.searching.Due.{Due}
use Rattle.pareto_search.specs.declared.searching.Searching.{Searching}
use Rattle.pareto_search.specs.inside.Grounds.{IsGround}
use Rattle.pareto_search.specs.inside.Knowledge.{IsAbove, IsTold}
use Rattle.pareto_search.specs.inside.Turns.{HasBound, HasFaster, IsAbsorbed, IsBoundOf, IsDue, IsDueWith, IsOnward, IsSameRate, IsValid, greatest_of}
use Rattle.pareto_search.proofs.RateOrder.{above-from, above-most, above-never, most-on, most-same, same-on}
use Rattle.pareto_search.proofs.SlowCovered.{bound-valid, told-slow}

-- with one bound more, those of what was told stay, and if it is valid, all are

pub bounds-stay : (old new : List Bound) (b : Bound) → new ≡ old ++ b ∷ [] → (ts : List Telling) → All (HasBound old) ts → All (HasBound new) ts
bounds-stay old new b items ts kept =
    subst (λ (bs : List Bound). All (HasBound bs) ts) (sym items)
    (All-weaker (HasBound old) (HasBound (old ++ b ∷ [])) (λ t has. (has.0, Contains-append_left old (b ∷ []) has.0 has.1, has.2)) ts kept)

pub valid-more : (net : Net) (corner : List (Option ℕ)) (lattice : Lattice) (old new : List Bound) (b : Bound) → new ≡ old ++ b ∷ [] → All (IsValid net corner lattice) old → IsValid net corner lattice b → All (IsValid net corner lattice) new
valid-more net corner lattice old new b items all one = subst (All (IsValid net corner lattice)) (sym items) (All-push (IsValid net corner lattice) old b all one)

-- the best rate is the greatest, and none is below that of the last point

pub due-greatest : (lattice : Lattice) (ts : List Telling) (below : Fraction) (floor : ℕ) (best : Fraction) (due : Option Due) → IsDue lattice ts below floor best due → IsSameRate best (greatest_of due below)
due-greatest lattice ts below floor best None is = is
due-greatest lattice ts below floor best (Some d) is = is.1

pub below-greatest : (lattice : Lattice) (ts : List Telling) (below : Fraction) (floor : ℕ) (best : Fraction) (due : Option Due) → IsDue lattice ts below floor best due → IsAtMost below (greatest_of due below)
below-greatest lattice ts below floor best None is = most-same below
below-greatest lattice ts below floor best (Some d) is = above-most d.rate below is.0.above

pub below-best : (lattice : Lattice) (ts : List Telling) (below : Fraction) (floor : ℕ) (best : Fraction) (due : Option Due) → IsDue lattice ts below floor best due → IsAtMost below best
below-best lattice ts below floor best due is = most-on below (greatest_of due below) best (below-greatest lattice ts below floor best due is) (due-greatest lattice ts below floor best due is).1

due-stays : (lattice : Lattice) (ts : List Telling) (below : Fraction) (floor : ℕ) (best more : Fraction) (due : Option Due) → IsDue lattice ts below floor best due → IsSameRate more best → IsDue lattice ts below floor more due
due-stays lattice ts below floor best more None is same = same-on more best below same is
due-stays lattice ts below floor best more (Some d) is same = (is.0, same-on more best d.rate same is.1)

module _ (net : Net) (limits : Limits) (corner : List (Option ℕ)) (lattice : Lattice) (base : IsGround net limits corner lattice) (floor many : ℕ) (s : Searching) (is : IsAbsorbed net limits corner lattice floor many s) (t : Telling) (below : many < length s.known.tellings.items) (at : t ≡ slice_index_or s.known.tellings.items many t) where
  here : Contains s.known.tellings.items t
  here = (many, below, sym at)

  told : IsTold net limits corner lattice t
  told = All-contains (IsTold net limits corner lattice) s.known.tellings.items t is.known.told here

  abbrev IsLow : Telling → Type 0
  IsLow x = storage_of lattice.axes x.capacities ≤ floor

  left : All IsLow (slice_index_or s.known.tellings.items many t ∷ drop (many + 1) s.known.tellings.items)
  left = subst (All IsLow) (drop_more s.known.tellings.items many t below) is.later

  low : IsLow t
  low = subst IsLow (sym at) (All-head IsLow (slice_index_or s.known.tellings.items many t) (drop (many + 1) s.known.tellings.items) left)

  taken : take (many + 1) s.known.tellings.items ≡ take many s.known.tellings.items ++ t ∷ []
  taken = take_more s.known.tellings.items many t below ∙ ap (λ (x : Telling). take many s.known.tellings.items ++ x ∷ []) (sym at)

  best-greatest : IsSameRate s.bounds.best (greatest_of s.due s.below)
  best-greatest = due-greatest lattice s.known.tellings.items s.below floor s.bounds.best s.due is.due

  above-best : IsAbove t.rate (greatest_of s.due s.below) → IsAbove t.rate s.bounds.best
  above-best above = above-from s.bounds.best (greatest_of s.due s.below) t.rate best-greatest.0 above

  above-below : IsAbove t.rate (greatest_of s.due s.below) → IsAbove t.rate s.below
  above-below above = above-from s.below (greatest_of s.due s.below) t.rate (below-greatest lattice s.known.tellings.items s.below floor s.bounds.best s.due is.due) above

  -- less storage is settled, so a greater rate than that of the last point needs that of the floor
  full : IsAbove t.rate s.below → storage_of lattice.axes t.capacities ≡ floor
  full above =
      ⊎_elim
      (λ (less : storage_of lattice.axes t.capacities < floor).
      absurd (above-never t.rate s.below above
      (told-slow net limits corner lattice base s.bounds.bounds.items is.valid s.below t told (is.settled t.capacities told.among less))))
      (λ (no_less : floor ≤ storage_of lattice.axes t.capacities). omega (arith, no_less, low))
      (cases_lt (storage_of lattice.axes t.capacities) floor)

  module _ (bs : Search) (b : Bound) (of : IsBoundOf t b) (searched : IsSearched bs) (order : bs.order ≡ s.bounds.order) (lattice_same : bs.lattice ≡ s.bounds.lattice) (items : bs.bounds.items ≡ s.bounds.bounds.items ++ b ∷ []) (reached : IsAtMost t.rate bs.best) (risen : IsAtMost s.bounds.best bs.best) (either : (bs.best ≡ s.bounds.best) ⊎ (bs.best ≡ t.rate)) where
    covered-more : (r : Fraction) (ks : List ℕ) → IsCovered s.bounds.bounds.items r ks → IsCovered bs.bounds.items r ks
    covered-more r ks covered = subst (λ (xs : List Bound). IsCovered xs r ks) (sym items) (covered-added s.bounds.bounds.items b r ks covered)

    absorbed : (due : Option Due) → IsDue lattice s.known.tellings.items s.below floor bs.best due → IsAbsorbed net limits corner lattice floor (many + 1) (record { bounds = bs; known = s.known; points = s.points; below = s.below; due = due })
    absorbed due is_due = record {
      searched = searched;
      by_storage = order ∙ is.by_storage;
      lattice_is = lattice_same ∙ is.lattice_is;
      kept = subst (All (HasBound bs.bounds.items)) (sym taken)
          (All-push (HasBound bs.bounds.items) (take many s.known.tellings.items) t (bounds-stay s.bounds.bounds.items bs.bounds.items b items (take many s.known.tellings.items) is.kept)
          (b, subst (λ (xs : List Bound). Contains xs b) (sym items) (Contains-push s.bounds.bounds.items b), of));
      valid = valid-more net corner lattice s.bounds.bounds.items bs.bounds.items b items is.valid (bound-valid net limits corner lattice base t b told of);
      most = subst (All (λ (x : Telling). IsAtMost x.rate bs.best)) (sym taken)
          (All-push (λ (x : Telling). IsAtMost x.rate bs.best) (take many s.known.tellings.items) t
          (All-weaker (λ (x : Telling). IsAtMost x.rate s.bounds.best) (λ (x : Telling). IsAtMost x.rate bs.best) (λ x one. most-on x.rate s.bounds.best bs.best one risen) (take many s.known.tellings.items) is.most) reached);
      later = All-tail IsLow (slice_index_or s.known.tellings.items many t) (drop (many + 1) s.known.tellings.items) left;
      known = is.known;
      settled = λ ks among less. covered-more s.below ks (is.settled ks among less);
      due = is_due;
      pointed = is.pointed;
    }

    -- a rate above the greatest becomes the best, and is due
    rate-best : IsAbove t.rate (greatest_of s.due s.below) → IsSameRate bs.best t.rate
    rate-best above =
        ⊎_elim
        (λ (same : bs.best ≡ s.bounds.best). absurd (above-never t.rate s.bounds.best (above-best above) (subst (IsAtMost t.rate) same reached)))
        (λ (same : bs.best ≡ t.rate). (subst (λ (r : Fraction). IsAtMost r t.rate) (sym same) (most-same t.rate), reached))
        either

    absorbed-above : IsAbove t.rate (greatest_of s.due s.below) → IsAbsorbed net limits corner lattice floor (many + 1) (record { bounds = bs; known = s.known; points = s.points; below = s.below; due = Some (record { total = floor; rate = t.rate }) })
    absorbed-above above =
        absorbed (Some (record { total = floor; rate = t.rate }))
        (record { above = above-below above; total = refl; telling = t; among = here; storage = full (above-below above); rate = refl }, rate-best above)

    -- else the best rate stays
    best-stays : IsAtMost t.rate (greatest_of s.due s.below) → IsSameRate bs.best s.bounds.best
    best-stays most =
        ⊎_elim
        (λ (same : bs.best ≡ s.bounds.best). (subst (λ (r : Fraction). IsAtMost r s.bounds.best) (sym same) (most-same s.bounds.best), risen))
        (λ (same : bs.best ≡ t.rate). (subst (λ (r : Fraction). IsAtMost r s.bounds.best) (sym same) (most-on t.rate (greatest_of s.due s.below) s.bounds.best most best-greatest.1), risen))
        either

    absorbed-most : IsAtMost t.rate (greatest_of s.due s.below) → IsAbsorbed net limits corner lattice floor (many + 1) (record { bounds = bs; known = s.known; points = s.points; below = s.below; due = s.due })
    absorbed-most most = absorbed s.due (due-stays lattice s.known.tellings.items s.below floor s.bounds.best bs.best s.due is.due (best-stays most))

    pub absorbed-with : (due : Option Due) → IsDueWith s.due s.below t.rate floor due → IsAbsorbed net limits corner lattice floor (many + 1) (record { bounds = bs; known = s.known; points = s.points; below = s.below; due = due })
    absorbed-with due (inl (above, same)) = subst (λ (d : Option Due). IsAbsorbed net limits corner lattice floor (many + 1) (record { bounds = bs; known = s.known; points = s.points; below = s.below; due = d })) (sym same) (absorbed-above above)
    absorbed-with due (inr (most, same)) = subst (λ (d : Option Due). IsAbsorbed net limits corner lattice floor (many + 1) (record { bounds = bs; known = s.known; points = s.points; below = s.below; due = d })) (sym same) (absorbed-most most)

    -- what was covered stays so

    onward : (due : Option Due) → (due ≡ s.due) ⊎ HasFaster lattice floor s.known.tellings.items s.bounds.best → IsOnward lattice floor s (record { bounds = bs; known = s.known; points = s.points; below = s.below; due = due })
    onward due how = record {
      points = refl;
      below = refl;
      tellings = ([], sym (append-nil s.known.tellings.items));
      best = risen;
      covered = λ ks covered. covered-reached bs.bounds.items s.bounds.best bs.best ks risen (covered-more s.bounds.best ks covered);
      due = how;
    }

    pub onward-with : (due : Option Due) → IsDueWith s.due s.below t.rate floor due → IsOnward lattice floor s (record { bounds = bs; known = s.known; points = s.points; below = s.below; due = due })
    onward-with due (inl (above, same)) = onward due (inr (t, here, low, above-best above))
    onward-with due (inr (most, same)) = onward due (inl same)
