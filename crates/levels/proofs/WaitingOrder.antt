-- What the order of those that wait tells of two of them.
use Rattle.std.proofs.Common.{◌≡◌, ℕ, ◌<◌, ◌⊎◌, true, false, Option, None, Some, List, [], ◌∷◌, inl, inr, refl, ap, ◌∙◌, arith, lt-ltb}
use Rattle.std.specs.Prelude.{nat_lt}
use Rattle.std.proofs.lemmas.Bool.{le-ltb}
use Rattle.std.proofs.lemmas.Cmp.{ranked}
use Rattle.std.specs.declared.cmp.Ordering.{Ordering}
use Rattle.std.specs.declared.cmp.Ordering.TheVariants.{Less, Equal, Greater}
use Rattle.std.specs.Ordering.{nat_cmp, ordering_then}
use Rattle.storage.specs.CapacityOrder.{no_later}
use Rattle.levels.specs.declared.found.Found.{Found}
use Rattle.levels.specs.WaitingOrder.{capacities_cmp}
use Rattle.levels.specs.Frontiers.{found_order}

less-later : (ds es : List (Option ℕ)) → capacities_cmp ds es ≡ Less → no_later es ds ≡ false
less-later [] [] is = cc
less-later [] (e ∷ es) is = refl
less-later (d ∷ ds) [] is = cc
less-later (None ∷ ds) (None ∷ es) is = less-later ds es is
less-later (None ∷ ds) (Some b ∷ es) is = refl
less-later (Some a ∷ ds) (None ∷ es) is = cc
less-later (Some a ∷ ds) (Some b ∷ es) is = at (nat_cmp a b) refl is (less-later ds es)
  where
    at : (o : Ordering) → o ≡ nat_cmp a b → ordering_then o (capacities_cmp ds es) ≡ Less → (capacities_cmp ds es ≡ Less → no_later es ds ≡ false) → no_later (Some b ∷ es) (Some a ∷ ds) ≡ false
    at Less same is rest = let less : a < b = ranked a b Less same in let e : nat_lt b a ≡ false = le-ltb b a (omega arith) in let f : nat_lt a b ≡ true = lt-ltb a b less in rw (e, f) refl
    at Equal same is rest = let level : a ≡ b = ranked a b Equal same in let e : nat_lt b a ≡ false = le-ltb b a (omega arith) in let f : nat_lt a b ≡ false = le-ltb a b (omega arith) in rw (e, f) (rest is)
    at Greater same is rest = cc

same-capacities : (ds es : List (Option ℕ)) → capacities_cmp ds es ≡ Equal → ds ≡ es
same-capacities [] [] is = refl
same-capacities [] (e ∷ es) is = cc
same-capacities (d ∷ ds) [] is = cc
same-capacities (None ∷ ds) (None ∷ es) is = ap (λ (xs : List (Option ℕ)). None ∷ xs) (same-capacities ds es is)
same-capacities (None ∷ ds) (Some b ∷ es) is = cc
same-capacities (Some a ∷ ds) (None ∷ es) is = cc
same-capacities (Some a ∷ ds) (Some b ∷ es) is = at (nat_cmp a b) refl is (same-capacities ds es)
  where
    at : (o : Ordering) → o ≡ nat_cmp a b → ordering_then o (capacities_cmp ds es) ≡ Equal → (capacities_cmp ds es ≡ Equal → ds ≡ es) → Some a ∷ ds ≡ Some b ∷ es
    at Less same is rest = cc
    at Equal same is rest = let level : a ≡ b = ranked a b Equal same in ap (λ (x : ℕ). Some x ∷ ds) level ∙ ap (λ (xs : List (Option ℕ)). Some b ∷ xs) (rest is)
    at Greater same is rest = cc

pub waits-before : {H : Type 0} (v w : Found H) → found_order v w ≡ Less → (v.total < w.total) ⊎ ((v.total ≡ w.total) × (no_later w.capacities.capacities v.capacities.capacities ≡ false))
waits-before v w is = at (nat_cmp v.total w.total) refl is
  where
    at : (o : Ordering) → o ≡ nat_cmp v.total w.total → ordering_then o (capacities_cmp v.capacities.capacities w.capacities.capacities) ≡ Less → (v.total < w.total) ⊎ ((v.total ≡ w.total) × (no_later w.capacities.capacities v.capacities.capacities ≡ false))
    at Less same is = inl (ranked v.total w.total Less same)
    at Equal same is = inr (ranked v.total w.total Equal same, less-later v.capacities.capacities w.capacities.capacities is)
    at Greater same is = cc

pub waits-same : {H : Type 0} (v w : Found H) → found_order v w ≡ Equal → v.capacities.capacities ≡ w.capacities.capacities
waits-same v w is = at (nat_cmp v.total w.total) refl is
  where
    at : (o : Ordering) → o ≡ nat_cmp v.total w.total → ordering_then o (capacities_cmp v.capacities.capacities w.capacities.capacities) ≡ Equal → v.capacities.capacities ≡ w.capacities.capacities
    at Less same is = cc
    at Equal same is = same-capacities v.capacities.capacities w.capacities.capacities is
    at Greater same is = cc
