-- Those that wait stay in order when one more is put among them, and those whose distributions differ can be put in order.
use Rattle.std.proofs.Common.{◌≡◌, ◌+◌, ◌<◌, ◌⊎◌, false, List, [], ◌∷◌, length, inl, inr, ⊎_elim, refl, sym, ap, ◌∙◌, subst, arith}
use Rattle.std.specs.Prelude.{All, Contains, slice_index_or}
use Rattle.std.proofs.lemmas.List.Elements.{All-contains, All-from_recursion, All-map, Contains-get_or}
use Rattle.std.specs.Cmp.{IsTotalOrder, eq_by_cmp_equiv}
use Rattle.std.specs.declared.cmp.Ordering.{Ordering}
use Rattle.std.specs.declared.cmp.Ordering.TheVariants.{Less, Equal, Greater}
use Rattle.std.specs.Ordering.{is_eq, match_ordering, ordering_reverse}
use Rattle.std.specs.List.{AllByRecursion, IsDistinct}
use Rattle.std.specs.List.Sorted.{IsPermutation, IsSorted, IsStrictlySortedBy}
use Rattle.std.specs.BTreeSet.{insert_key}
use Rattle.std.proofs.lemmas.Map.Keys.{IsDistinct-IsPermutation}
use Rattle.sd_base.specs.Net.{Channel}
use Rattle.storage.specs.Distributions.{storage_of}
use Rattle.storage.specs.StorageOrder.{AreInOrder, IsBefore}
use Rattle.levels.specs.declared.found.Found.{Found}
use Rattle.levels.specs.WaitingOrder.{waiting_total}
use Rattle.levels.specs.Frontiers.{distributions_of, found_order}
use Rattle.levels.specs.inside.Sets.{found_eq}
use Rattle.sd_base.proofs.ContainedHavePlaces.{contains-cases, contains-here, contains-later}
use Rattle.levels.proofs.DistinctLists.{all-of, distinct-sorted}
use Rattle.levels.proofs.WaitingOrder.{waits-before}

module _ {H : Type 0} where
  -- any two that were found compare
  pub found_total : IsTotalOrder {K = Found H} found_order
  found_total = waiting_total (λ (f : Found H). f.total) (λ (f : Found H). f.capacities.capacities)

  insert-only : (fs : List (Found H)) (k f : Found H) → Contains (insert_key found_order fs k) f → (k ≡ f) ⊎ Contains fs f
  insert-only [] k f is = contains-cases k [] f is
  insert-only (x ∷ fs) k f is = at (found_order k x) (insert-only fs k f) is
    where
      at : (o : Ordering) → (Contains (insert_key found_order fs k) f → (k ≡ f) ⊎ Contains fs f) → Contains (match_ordering o (k ∷ x ∷ fs) (x ∷ fs) (x ∷ insert_key found_order fs k)) f → (k ≡ f) ⊎ Contains (x ∷ fs) f
      at Less rest is = contains-cases k (x ∷ fs) f is
      at Equal rest is = inr is
      at Greater rest is =
          ⊎_elim
          (λ (same : x ≡ f). inr (subst (λ (y : Found H). Contains (x ∷ fs) y) same (contains-here x fs)))
          (λ (later : Contains (insert_key found_order fs k) f). ⊎_elim (λ (h : k ≡ f). inl h) (λ (h : Contains fs f). inr (contains-later x fs f h)) (rest later))
          (contains-cases x (insert_key found_order fs k) f is)

  sorted-front : (f v : Found H) (fs : List (Found H)) → IsStrictlySortedBy found_order (f ∷ fs) → Contains fs v → found_order f v ≡ Less
  unfolding IsStrictlySortedBy
  sorted-front f v fs sorted is = All-contains (λ (x : Found H). found_order f x ≡ Less) fs v (All-from_recursion (λ (x : Found H). found_order f x ≡ Less) fs sorted.0) is

  sorted-rest : (f : Found H) (fs : List (Found H)) → IsStrictlySortedBy found_order (f ∷ fs) → IsStrictlySortedBy found_order fs
  unfolding IsStrictlySortedBy
  sorted-rest f fs sorted = sorted.1

  -- those that wait with their storage are in order
  pub sorted-order : (cs : List Channel) (fs : List (Found H)) → IsStrictlySortedBy found_order fs → ((f : Found H) → Contains fs f → f.total ≡ storage_of cs f.capacities.capacities) → AreInOrder cs (distributions_of fs)
  sorted-order cs [] sorted totals = tt
  sorted-order cs (f ∷ fs) sorted totals = (before, sorted-order cs fs (sorted-rest f fs sorted) (λ v is. totals v (contains-later f fs v is)))
    where
      after : (v : Found H) → Contains fs v → IsBefore cs f.capacities.capacities v.capacities.capacities
      after v is =
          let mine : f.total ≡ storage_of cs f.capacities.capacities = totals f (contains-here f fs) in
          let its : v.total ≡ storage_of cs v.capacities.capacities = totals v (contains-later f fs v is) in
          ⊎_elim
          (λ (less : f.total < v.total). inl (omega arith))
          (λ (level : (f.total ≡ v.total) × _). inr (omega (arith, level.0), level.1))
          (waits-before f v (sorted-front f v fs sorted is))

      before : All (IsBefore cs f.capacities.capacities) (distributions_of fs)
      before = All-map (IsBefore cs f.capacities.capacities) (λ (v : Found H). v.capacities.capacities) fs (λ k d below. after (slice_index_or fs k d) (Contains-get_or fs k d below))

  insert-sorted : (fs : List (Found H)) (k : Found H) → IsStrictlySortedBy found_order fs → IsStrictlySortedBy found_order (insert_key found_order fs k)
  unfolding IsStrictlySortedBy
  insert-sorted [] k sorted = (tt, tt)
  insert-sorted (x ∷ fs) k sorted = at (found_order k x) refl (insert-sorted fs k sorted.1)
    where
      before : (y : Found H) → Contains fs y → found_order x y ≡ Less
      before y one = sorted-front x y fs sorted one

      at : (o : Ordering) → found_order k x ≡ o → IsStrictlySortedBy found_order (insert_key found_order fs k) → IsStrictlySortedBy found_order (match_ordering o (k ∷ x ∷ fs) (x ∷ fs) (x ∷ insert_key found_order fs k))
      at Less is rest = ((is, all-of (λ (y : Found H). found_order k y ≡ Less) fs (λ y one. found_total.trans k x y is (before y one))), sorted)
      at Equal is rest = sorted
      at Greater is rest = (
        all-of (λ (y : Found H). found_order x y ≡ Less) (insert_key found_order fs k)
            (λ y one.
            ⊎_elim
            (λ (same : k ≡ y). subst (λ (z : Found H). found_order x z ≡ Less) same (found_total.antisymm x k ∙ ap ordering_reverse is))
            (λ (later : Contains fs y). before y later)
            (insert-only fs k y one)),
        rest,
      )

  insert-long : (fs : List (Found H)) (k : Found H) → AllByRecursion (λ (f : Found H). found_eq k f ≡ false) fs → length (insert_key found_order fs k) ≡ length fs + 1
  insert-long [] k apart = refl
  insert-long (x ∷ fs) k apart = at (found_order k x) apart.0 (insert-long fs k apart.1)
    where
      at : (o : Ordering) → is_eq o ≡ false → length (insert_key found_order fs k) ≡ length fs + 1 → length (match_ordering o (k ∷ x ∷ fs) (x ∷ fs) (x ∷ insert_key found_order fs k)) ≡ length (x ∷ fs) + 1
      at Less other rest = omega arith
      at Equal other rest = cc
      at Greater other rest = omega (arith, rest)

  -- the same ones in order
  pub record IsListed (fs all : List (Found H)) : Type 0 where
    pub sorted : IsStrictlySortedBy found_order all
    pub long : length all ≡ length fs
    pub only : (f : Found H) → Contains all f → Contains fs f

  -- those whose distributions differ can be put in order
  pub listed : (fs : List (Found H)) → IsDistinct found_eq fs → (all : List (Found H)) × IsListed fs all
  unfolding IsDistinct IsStrictlySortedBy
  listed [] apart = ([], record { sorted = tt; long = refl; only = λ f one. one })
  listed (k ∷ fs) apart =
      let all = listed fs apart.1 in (
        insert_key found_order all.0 k,
        record {
          sorted = insert-sorted all.0 k all.1.sorted;
          long = (
              let others = all-of (λ (f : Found H). found_eq k f ≡ false) all.0 (λ f one. apart-of fs apart.0 f (all.1.only f one)) in
              let more = insert-long all.0 k others in
              omega (arith, more, all.1.long));
          only = λ f one. ⊎_elim (λ (same : k ≡ f). subst (Contains (k ∷ fs)) same (contains-here k fs)) (λ (later : Contains all.0 f). contains-later k fs f (all.1.only f later)) (insert-only all.0 k f one);
        },
      )
    where
      apart-of : (xs : List (Found H)) → AllByRecursion (λ (f : Found H). found_eq k f ≡ false) xs → (f : Found H) → Contains xs f → found_eq k f ≡ false
      apart-of xs all f one = All-contains (λ (x : Found H). found_eq k x ≡ false) xs f (All-from_recursion (λ (x : Found H). found_eq k x ≡ false) xs all) one

  -- distinct ones that were sorted
  pub sorted-level : (keys items level : List (Found H)) → items ≡ keys → IsDistinct found_eq keys → IsPermutation items level → IsSorted found_order level → IsStrictlySortedBy found_order level
  sorted-level keys items level same differ moved sorted =
      distinct-sorted found_total level sorted (IsDistinct-IsPermutation found_eq (λ x y. (eq_by_cmp_equiv found_total).symm x y) items level moved (subst (IsDistinct found_eq) (sym same) differ))
