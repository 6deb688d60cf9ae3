-- One more that waits, unless its distribution does so already.
use Rattle.std.proofs.Common.{◌≡◌, ℕ, ◌+◌, ◌||◌, Bool, true, false, Option, List, [], ◌∷◌, length, inl, inr, ⊎_elim, refl, sym, ap, subst, arith}
use Rattle.std.specs.Prelude.{Any, Contains}
use Rattle.std.specs.List.{AllByRecursion, IsDistinct, list_any}
use Rattle.std.specs.List.Sorted.{IsPermutation}
use Rattle.std.proofs.lemmas.List.Folds.{Any-from_list_any}
use Rattle.std.proofs.lemmas.List.Sorted.{Contains-permutation, IsPermutation-sym, length_permutation}
use Rattle.std.proofs.lemmas.Map.Keys.{IsDistinct-cons}
use Rattle.std.specs.declared.cmp.Ordering.{Ordering}
use Rattle.std.specs.declared.cmp.Ordering.TheVariants.{Less, Equal, Greater}
use Rattle.std.specs.Ordering.{is_eq, nat_cmp, ordering_then}
use Rattle.levels.specs.declared.found.Found.{Found}
use Rattle.levels.specs.declared.levels.Bounds.{Bounds}
use Rattle.levels.specs.WaitingOrder.{capacities_cmp}
use Rattle.levels.specs.Frontiers.{found_order}
use Rattle.levels.specs.inside.Sets.{found_eq}
use Rattle.levels.specs.inside.Waiting.{IsAdded, IsCopy, IsOneTooMany}
use Rattle.sd_base.proofs.ContainedHavePlaces.{contains-cases, contains-here, contains-later, contains-none}
use Rattle.levels.proofs.InsertsKeepOrder.{listed}
use Rattle.levels.proofs.WaitingOrder.{waits-same}

module _ {H : Type 0} where
  copy-same : (child f : Found H) → child ≡ f → IsCopy child f
  copy-same child f same = subst (IsCopy child) same (record { capacities = refl; total = refl; hint = refl })

  is-equal : (child f : Found H) → found_eq child f ≡ true → found_order child f ≡ Equal
  is-equal child f is = at (found_order child f) is
    where
      at : (o : Ordering) → is_eq o ≡ true → o ≡ Equal
      at Less is = cc
      at Equal is = refl
      at Greater is = cc

  -- a copy has the distribution
  pub copied-apart : (child copy : Found H) (old : List (Found H)) → IsCopy child copy → list_any (found_eq child) old ≡ false → list_any (found_eq copy) old ≡ false
  copied-apart child copy old same apart =
      let P : ℕ → List (Option ℕ) → Type 0 = λ t ds. list_any (λ (g : Found H). is_eq (ordering_then (nat_cmp t g.total) (capacities_cmp ds g.capacities.capacities))) old ≡ false in
      subst (λ (t : ℕ). P t copy.capacities.capacities) (sym same.total) (subst (λ (ds : List (Option ℕ)). P child.total ds) (sym same.capacities) apart)

  -- one whose distribution waits already
  pub added-none : (child : Found H) (old : List (Found H)) → list_any (found_eq child) old ≡ true → IsAdded child old old
  added-none child old there =
      let any : Any (λ (f : Found H). found_eq child f ≡ true) old = Any-from_list_any (found_eq child) old there in
      record {
        kept = λ f one. one;
        only = λ f one. inl one;
        there = (any.1, (any.0, any.2, any.3), sym (waits-same child any.1 (is-equal child any.1 any.4)));
      }

  -- one that is put among those that wait
  pub added-one : (child copy : Found H) (old new : List (Found H)) → IsCopy child copy → IsPermutation (copy ∷ old) new → IsAdded child old new
  added-one child copy old new same put = record {
    kept = λ f one. Contains-permutation (copy ∷ old) new f put (contains-later copy old f one);
    only = λ f one. ⊎_elim (λ (h : copy ≡ f). inr (subst (IsCopy child) h same)) (λ (h : Contains old f). inl h)
        (contains-cases copy old f (Contains-permutation new (copy ∷ old) f (IsPermutation-sym (copy ∷ old) new put) one));
    there = (copy, Contains-permutation (copy ∷ old) new copy put (contains-here copy old), same.capacities);
  }

  pub added-long : (copy : Found H) (old new : List (Found H)) → IsPermutation (copy ∷ old) new → length new ≡ length old + 1
  added-long copy old new put = omega (arith, length_permutation (copy ∷ old) new put)

  alone : (f : Found H) (new : List (Found H)) → IsPermutation (f ∷ []) new → new ≡ f ∷ []
  alone f [] put = absurd (let long = length_permutation (f ∷ []) [] put in omega (arith, long))
  alone f (x ∷ []) put =
      ⊎_elim (λ (same : f ≡ x). ap (λ (y : Found H). y ∷ []) (sym same)) (λ (none : Contains [] x). absurd (contains-none x none))
      (contains-cases f [] x (Contains-permutation (x ∷ []) (f ∷ []) x (IsPermutation-sym (f ∷ []) (x ∷ []) put) (contains-here x [])))
  alone f (x ∷ y ∷ ys) put = absurd (let long = length_permutation (f ∷ []) (x ∷ y ∷ ys) put in omega (arith, long))

  -- one that is put where none waits
  pub added-alone : (f : Found H) (old new : List (Found H)) → old ≡ [] → IsPermutation (f ∷ old) new → new ≡ f ∷ []
  added-alone f old new none put = alone f new (subst (λ (fs : List (Found H)). IsPermutation (f ∷ fs) new) none put)

  none-any : (f : Found H) (fs : List (Found H)) → list_any (found_eq f) fs ≡ false → AllByRecursion (λ (g : Found H). found_eq f g ≡ false) fs
  none-any f [] none = tt
  none-any f (x ∷ fs) none = at (found_eq f x) refl none (λ rest. none-any f fs rest)
    where
      at : (b : Bool) → found_eq f x ≡ b → (b || list_any (found_eq f) fs) ≡ false → (list_any (found_eq f) fs ≡ false → AllByRecursion (λ (g : Found H). found_eq f g ≡ false) fs) → AllByRecursion (λ (g : Found H). found_eq f g ≡ false) (x ∷ fs)
      at true is none rest = cc
      at false is none rest = (is, rest none)

  -- one that is found besides as many as are allowed
  pub one-too-many : (child : Found H) (bounds : Bounds) (found : ℕ) (old : List (Found H)) → found ≡ bounds.distributions → list_any (found_eq child) old ≡ false → IsDistinct found_eq old → IsOneTooMany child bounds found old
  one-too-many child bounds found old full apart differ =
      let all = listed (child ∷ old) (IsDistinct-cons found_eq child old (none-any child old apart) differ) in
      record {
        all = all.0;
        only = λ f one. ⊎_elim (λ (h : child ≡ f). inr (copy-same child f h)) (λ (h : Contains old f). inl h) (contains-cases child old f (all.1.only f one));
        sorted = all.1.sorted;
        count = omega (arith, full, all.1.long);
      }
