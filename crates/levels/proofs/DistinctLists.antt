-- Lists whose members differ: two of them, and one that is sorted.
use Rattle.std.proofs.Common.{◌≡◌, ◌+◌, ◌≤◌, Bool, false, List, [], ◌∷◌, ◌++◌, length, sym, ap, ◌∙◌, refl, arith}
use Rattle.std.specs.Prelude.{Contains, slice_index_or}
use Rattle.std.specs.Cmp.{IsTotalOrder}
use Rattle.std.specs.List.{AllByRecursion, IsDistinct}
use Rattle.std.specs.List.Sorted.{IsSorted, IsStrictlySortedBy}
use Rattle.std.specs.declared.cmp.Ordering.{Ordering}
use Rattle.std.specs.declared.cmp.Ordering.TheVariants.{Less, Equal, Greater}
use Rattle.std.specs.Ordering.{eq_by_cmp, is_eq, is_lt, ordering_reverse}
use Rattle.std.proofs.lemmas.Map.Keys.{apart_from_distinct, sorted_from_all_adjacent}
use Rattle.sd_base.proofs.ContainedHavePlaces.{contains-here, contains-later}

module _ {K : Type 0} where
  pub one-of : (xs : List K) → 1 ≤ length xs → (x : K) × Contains xs x
  one-of [] some = absurd (omega (arith, some))
  one-of (x ∷ xs) some = (x, contains-here x xs)

  pub all-of : (P : K → Type 0) (xs : List K) → ((x : K) → Contains xs x → P x) → AllByRecursion P xs
  all-of P [] holds = tt
  all-of P (x ∷ xs) holds = (holds x (contains-here x xs), all-of P xs (λ y one. holds y (contains-later x xs y one)))

  all-both : (P : K → Type 0) (xs ys : List K) → AllByRecursion P xs → AllByRecursion P ys → AllByRecursion P (xs ++ ys)
  all-both P [] ys first second = second
  all-both P (x ∷ xs) ys first second = (first.0, all-both P xs ys first.1 second)

  pub distinct-append : (e : K → K → Bool) (xs ys : List K) → IsDistinct e xs → IsDistinct e ys → ((x y : K) → Contains xs x → Contains ys y → e x y ≡ false) → IsDistinct e (xs ++ ys)
  unfolding IsDistinct
  distinct-append e [] ys first second apart = second
  distinct-append e (x ∷ xs) ys first second apart = (
    all-both (λ y. e x y ≡ false) xs ys first.0 (all-of (λ y. e x y ≡ false) ys (λ y one. apart x y (contains-here x xs) one)),
    distinct-append e xs ys first.1 second (λ z y one other. apart z y (contains-later x xs z one) other),
  )

  module _ {R : K → K → Ordering} (order : IsTotalOrder R) where
    less-of : (x y : K) → is_lt (R y x) ≡ false → eq_by_cmp R x y ≡ false → R x y ≡ Less
    less-of x y up apart = at (R x y) apart (ap is_lt (sym (order.antisymm y x)) ∙ up)
      where
        at : (o : Ordering) → is_eq o ≡ false → is_lt (ordering_reverse o) ≡ false → o ≡ Less
        at Less apart up = refl
        at Equal apart up = cc
        at Greater apart up = cc

    -- what is sorted and differs is in strict order
    pub distinct-sorted : (xs : List K) → IsSorted R xs → IsDistinct (eq_by_cmp R) xs → IsStrictlySortedBy R xs
    unfolding IsStrictlySortedBy
    distinct-sorted [] up apart = tt
    distinct-sorted (x ∷ xs) up apart = sorted_from_all_adjacent order (x ∷ xs) x
        (λ k below. less-of (slice_index_or (x ∷ xs) k x) (slice_index_or (x ∷ xs) (k + 1) x) (up k x (omega arith) below) (apart_from_distinct (eq_by_cmp R) (x ∷ xs) k (k + 1) x apart (omega arith) below))
