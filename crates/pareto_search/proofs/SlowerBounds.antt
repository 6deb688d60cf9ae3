-- The search by the bounds of lesser rates: how it begins, and how it knows one more telling.
use Rattle.std.proofs.Common.{◌≡◌, ℕ, ◌*◌, ◌≤◌, ◌⊎◌, List, [], ◌∷◌, ◌++◌, ⊎_elim, sym, ap, ◌∙◌, subst, arith, mul-le-mul_right}
use Rattle.std.specs.Prelude.{All, Contains}
use Rattle.std.proofs.lemmas.List.Elements.{All-nil, All-push, All-weaker, Contains-append_left, Contains-push, Contains-push_cases}
use Rattle.sd_base.proofs.ContainedHavePlaces.{contains-none}
use Rattle.sd_base.specs.declared.numbers.Fraction.{Fraction}
use Rattle.covers.specs.declared.bound.Bound.{Bound}
use Rattle.covers.specs.declared.lattice.Axis.{Axis}
use Rattle.covers.specs.declared.lattice.Lattice.{Lattice}
use Rattle.covers.specs.declared.search.Order.TheVariants.{Lexicographic}
use Rattle.covers.specs.declared.search.Search.{Search}
use Rattle.covers.specs.Bounds.{IsAtMost, IsCovered}
use Rattle.covers.specs.Lattices.{IsAmong, IsOnLattice, storage_of}
use Rattle.covers.specs.Searches.{IsSame, IsSearched, IsSettled}
use Rattle.walks.specs.declared.telling.Telling.{Telling}
use Rattle.pareto_search.specs.declared.searching.Due.{Due}
use Rattle.pareto_search.specs.inside.Firsts.{IsLeft, IsSlower}
use Rattle.pareto_search.specs.inside.Knowledge.{IsAbove}
use Rattle.pareto_search.specs.inside.Turns.{HasBound, IsBoundOf}
use Rattle.pareto_search.proofs.RateOrder.{above-never, most-on}

-- the telling of a bound, of a lesser rate than another
abbrev pub HasSlower : List Telling → Fraction → Bound → Type 0
HasSlower ts rate b = (t : Telling) × Contains ts t × IsAbove rate t.rate × IsBoundOf t b

-- no rate is below 0
zero-below : (rate none : Fraction) → none.num ≡ 0 → 1 ≤ rate.num → IsAbove rate none
zero-below rate none zero_there runs =
    let nothing : none.num * rate.den ≡ 0 * rate.den = ap (λ (n : ℕ). n * rate.den) zero_there in
    let some : 1 * none.den ≤ rate.num * none.den = mul-le-mul_right none.den runs in
    let there : 1 ≤ none.den = none.positive in
    omega (arith, nothing, some, there)

pub slower-begun : (lattice : Lattice) (due : Due) (s : Search) → IsSearched s → s.order ≡ Lexicographic → s.lattice.axes ≡ lattice.axes → s.lattice.limit ≡ due.total → s.bounds.items ≡ [] → s.best.num ≡ 0 → 1 ≤ due.rate.num → IsSlower lattice due [] s
slower-begun lattice due s searched order axes limit bounds best runs = record {
  searched = searched;
  by_vectors = order;
  axes = axes;
  limit = limit;
  best = zero-below due.rate s.best best runs;
  force = subst (All (λ (b : Bound). IsAtMost b.rate s.best)) (sym bounds) (All-nil (λ (b : Bound). IsAtMost b.rate s.best));
  each = λ t one above. absurd (contains-none t one);
  only = λ b one. absurd (contains-none b (subst (λ (bs : List Bound). Contains bs b) bounds one));
}

-- open nodes were looked at
pub slower-looked : (lattice : Lattice) (due : Due) (ts : List Telling) (s t : Search) → IsSame s t → IsSearched t → IsSlower lattice due ts s → IsSlower lattice due ts t
slower-looked lattice due ts s t same searched is = record {
  searched = searched;
  by_vectors = same.order ∙ is.by_vectors;
  axes = ap (λ (l : Lattice). l.axes) same.lattice ∙ is.axes;
  limit = ap (λ (l : Lattice). l.limit) same.lattice ∙ is.limit;
  best = subst (IsAbove due.rate) (sym same.best) is.best;
  force = subst (λ v. All (λ (b : Bound). IsAtMost b.rate t.best) v.items) (sym same.bounds) (subst (λ (r : Fraction). All (λ (b : Bound). IsAtMost b.rate r) s.bounds.items) (sym same.best) is.force);
  each = λ x one above. subst (λ v. HasBound v.items x) (sym same.bounds) (is.each x one above);
  only = λ b one. is.only b (subst (λ v. Contains v.items b) same.bounds one);
}

module _ (lattice : Lattice) (due : Due) (ts : List Telling) (s : Search) (is : IsSlower lattice due ts s) (t : Telling) where
  slower-later : (b : Bound) → HasSlower ts due.rate b → HasSlower (ts ++ t ∷ []) due.rate b
  slower-later b has = (has.0, Contains-append_left ts (t ∷ []) has.0 has.1, has.2, has.3)

  -- a telling of no lesser rate
  pub slower-other : IsAtMost due.rate t.rate → IsSlower lattice due (ts ++ t ∷ []) s
  slower-other most = record {
    searched = is.searched;
    by_vectors = is.by_vectors;
    axes = is.axes;
    limit = is.limit;
    best = is.best;
    force = is.force;
    each = λ x one above.
        ⊎_elim
        (λ (old : Contains ts x). is.each x old above)
        (λ (same : t ≡ x). absurd (above-never due.rate x.rate above (subst (λ (y : Telling). IsAtMost due.rate y.rate) same most)))
        (Contains-push_cases ts t x one);
    only = λ b one. slower-later b (is.only b one);
  }

  -- and one of a lesser rate, with its bound
  pub slower-more : (n : Search) (b : Bound) → IsAbove due.rate t.rate → IsBoundOf t b → IsSearched n → n.order ≡ s.order → n.lattice ≡ s.lattice → n.bounds.items ≡ s.bounds.items ++ b ∷ [] → IsAtMost t.rate n.best → IsAtMost s.best n.best → (n.best ≡ s.best) ⊎ (n.best ≡ t.rate) → IsSlower lattice due (ts ++ t ∷ []) n
  slower-more n b above of searched order lattice_same items reached risen either = record {
    searched = searched;
    by_vectors = order ∙ is.by_vectors;
    axes = ap (λ (l : Lattice). l.axes) lattice_same ∙ is.axes;
    limit = ap (λ (l : Lattice). l.limit) lattice_same ∙ is.limit;
    best =
        ⊎_elim
        (λ (same : n.best ≡ s.best). subst (IsAbove due.rate) (sym same) is.best)
        (λ (same : n.best ≡ t.rate). subst (IsAbove due.rate) (sym same) above)
        either;
    force = subst (All (λ (x : Bound). IsAtMost x.rate n.best)) (sym items)
        (All-push (λ (x : Bound). IsAtMost x.rate n.best) s.bounds.items b
        (All-weaker (λ (x : Bound). IsAtMost x.rate s.best) (λ (x : Bound). IsAtMost x.rate n.best) (λ x one. most-on x.rate s.best n.best one risen) s.bounds.items is.force)
        (subst (λ (r : Fraction). IsAtMost r n.best) (sym of.rate) reached));
    each = λ x one less.
        subst (λ (bs : List Bound). HasBound bs x) (sym items)
        (⊎_elim
        (λ (old : Contains ts x). let has : HasBound s.bounds.items x = is.each x old less in (has.0, Contains-append_left s.bounds.items (b ∷ []) has.0 has.1, has.2))
        (λ (same : t ≡ x). (b, Contains-push s.bounds.items b, subst (λ (y : Telling). IsBoundOf y b) same of))
        (Contains-push_cases ts t x one));
    only = λ x one.
        ⊎_elim
        (λ (old : Contains s.bounds.items x). slower-later x (is.only x old))
        (λ (same : b ≡ x). (t, Contains-push ts t, above, subst (IsBoundOf t) same of))
        (Contains-push_cases s.bounds.items b x (subst (λ (bs : List Bound). Contains bs x) items one));
  }

-- what is settled after a look was so before
pub settled-before : (s t : Search) → IsSame s t → IsSettled t → IsSettled s
settled-before s t same settled = λ ks among.
    subst (λ v. IsCovered v.items s.best ks) same.bounds
    (subst (λ (r : Fraction). IsCovered t.bounds.items r ks) same.best (settled ks (subst (λ (l : Lattice). IsAmong l ks) (sym same.lattice) among)))

-- what is among the search's vectors is among those of the lattice
pub within-back : (lattice : Lattice) (ts : List Telling) (s t : Search) → IsLeft lattice ts s → IsSame s t → (ks : List ℕ) → IsAmong t.lattice ks → IsAmong lattice ks
within-back lattice ts s t is same ks among =
    let axes : t.lattice.axes ≡ lattice.axes = ap (λ (l : Lattice). l.axes) same.lattice ∙ is.slower.axes in
    let limit : t.lattice.limit ≡ is.due.total = ap (λ (l : Lattice). l.limit) same.lattice ∙ is.slower.limit in
    record {
      on = subst (λ (xs : List Axis). IsOnLattice xs ks) axes among.on;
      within = subst (λ (xs : List Axis). storage_of xs ks ≤ lattice.limit) axes (omega (arith, among.within, limit, is.within));
    }
