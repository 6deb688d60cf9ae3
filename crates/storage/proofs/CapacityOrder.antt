-- The lexicographic order of distributions is an order in which any two compare.
use Rattle.std.proofs.Common.{◌≡◌, ℕ, ◌<◌, ◌⊎◌, true, false, Option, None, Some, List, [], ◌∷◌, inl, inr, ⊎_elim, sym, ap, refl, ◌∙◌, arith, lt-ltb}
use Rattle.std.specs.Prelude.{nat_lt}
use Rattle.std.proofs.lemmas.Bool.{cases_order, le-ltb, true≢false}
use Rattle.storage.specs.CapacityOrder.{no_later}

same-goes : (a : ℕ) (ds es : List (Option ℕ)) → no_later (Some a ∷ ds) (Some a ∷ es) ≡ no_later ds es
same-goes a ds es = let e : nat_lt a a ≡ false = le-ltb a a (omega arith) in rw e refl

less-goes : (a b : ℕ) (ds es : List (Option ℕ)) → a < b → no_later (Some a ∷ ds) (Some b ∷ es) ≡ true
less-goes a b ds es less = let e : nat_lt a b ≡ true = lt-ltb a b less in rw e refl

more-goes : (a b : ℕ) (ds es : List (Option ℕ)) → b < a → no_later (Some a ∷ ds) (Some b ∷ es) ≡ false
more-goes a b ds es more = let e : nat_lt a b ≡ false = le-ltb a b (omega arith) in let f : nat_lt b a ≡ true = lt-ltb b a more in rw (e, f) refl

goes-tell : (a b : ℕ) (ds es : List (Option ℕ)) → no_later (Some a ∷ ds) (Some b ∷ es) ≡ true → (a < b) ⊎ ((a ≡ b) × (no_later ds es ≡ true))
goes-tell a b ds es holds = ⊎_elim (λ (same : a ≡ b). inr (same, let at : no_later (Some b ∷ ds) (Some b ∷ es) ≡ true = rw same at holds in sym (same-goes b ds es) ∙ at)) (λ (apart : (a < b) ⊎ (b < a)). ⊎_elim (λ (less : a < b). inl less) (λ (more : b < a). absurd (true≢false (sym holds ∙ more-goes a b ds es more))) apart) (cases_order a b)

pub no_later-refl : (ds : List (Option ℕ)) → no_later ds ds ≡ true
no_later-refl [] = refl
no_later-refl (None ∷ ds) = no_later-refl ds
no_later-refl (Some a ∷ ds) = same-goes a ds ds ∙ no_later-refl ds

pub no_later-total : (ds es : List (Option ℕ)) → (no_later ds es ≡ true) ⊎ (no_later es ds ≡ true)
no_later-total [] es = inl refl
no_later-total (d ∷ ds) [] = inr refl
no_later-total (None ∷ ds) (None ∷ es) = no_later-total ds es
no_later-total (None ∷ ds) (Some b ∷ es) = inl refl
no_later-total (Some a ∷ ds) (None ∷ es) = inr refl
no_later-total (Some a ∷ ds) (Some b ∷ es) = at (no_later-total ds es)
  where
    at : (no_later ds es ≡ true) ⊎ (no_later es ds ≡ true) → (no_later (Some a ∷ ds) (Some b ∷ es) ≡ true) ⊎ (no_later (Some b ∷ es) (Some a ∷ ds) ≡ true)
    at rest = ⊎_elim (λ (same : a ≡ b). ⊎_elim (λ (h : no_later ds es ≡ true). inl (rw same (same-goes b ds es ∙ h))) (λ (h : no_later es ds ≡ true). inr (rw same (same-goes b es ds ∙ h))) rest) (λ (apart : (a < b) ⊎ (b < a)). ⊎_elim (λ (less : a < b). inl (less-goes a b ds es less)) (λ (more : b < a). inr (less-goes b a es ds more)) apart) (cases_order a b)

pub no_later-trans : (ds es fs : List (Option ℕ)) → no_later ds es ≡ true → no_later es fs ≡ true → no_later ds fs ≡ true
no_later-trans [] es fs one other = refl
no_later-trans (d ∷ ds) [] fs one other = cc
no_later-trans (None ∷ ds) (None ∷ es) [] one other = cc
no_later-trans (None ∷ ds) (None ∷ es) (None ∷ fs) one other = no_later-trans ds es fs one other
no_later-trans (None ∷ ds) (None ∷ es) (Some c ∷ fs) one other = refl
no_later-trans (None ∷ ds) (Some b ∷ es) [] one other = cc
no_later-trans (None ∷ ds) (Some b ∷ es) (None ∷ fs) one other = cc
no_later-trans (None ∷ ds) (Some b ∷ es) (Some c ∷ fs) one other = refl
no_later-trans (Some a ∷ ds) (None ∷ es) fs one other = cc
no_later-trans (Some a ∷ ds) (Some b ∷ es) [] one other = cc
no_later-trans (Some a ∷ ds) (Some b ∷ es) (None ∷ fs) one other = cc
no_later-trans (Some a ∷ ds) (Some b ∷ es) (Some c ∷ fs) one other = at (goes-tell a b ds es one) (goes-tell b c es fs other) (no_later-trans ds es fs)
  where
    at : (a < b) ⊎ ((a ≡ b) × (no_later ds es ≡ true)) → (b < c) ⊎ ((b ≡ c) × (no_later es fs ≡ true)) → (no_later ds es ≡ true → no_later es fs ≡ true → no_later ds fs ≡ true) → no_later (Some a ∷ ds) (Some c ∷ fs) ≡ true
    at (inl less) (inl more) rest = less-goes a c ds fs (omega arith)
    at (inl less) (inr (same, h)) rest = less-goes a c ds fs (omega arith)
    at (inr (same, h)) (inl less) rest = less-goes a c ds fs (omega arith)
    at (inr (same, h)) (inr (equal, k)) rest = let e : a ≡ c = same ∙ equal in rw e (same-goes c ds fs ∙ rest h k)

pub no_later-antisym : (ds es : List (Option ℕ)) → no_later ds es ≡ true → no_later es ds ≡ true → ds ≡ es
no_later-antisym [] [] one other = refl
no_later-antisym [] (e ∷ es) one other = cc
no_later-antisym (d ∷ ds) [] one other = cc
no_later-antisym (None ∷ ds) (None ∷ es) one other = ap (λ (xs : List (Option ℕ)). None ∷ xs) (no_later-antisym ds es one other)
no_later-antisym (None ∷ ds) (Some b ∷ es) one other = cc
no_later-antisym (Some a ∷ ds) (None ∷ es) one other = cc
no_later-antisym (Some a ∷ ds) (Some b ∷ es) one other = at (goes-tell a b ds es one) (goes-tell b a es ds other) (no_later-antisym ds es)
  where
    at : (a < b) ⊎ ((a ≡ b) × (no_later ds es ≡ true)) → (b < a) ⊎ ((b ≡ a) × (no_later es ds ≡ true)) → (no_later ds es ≡ true → no_later es ds ≡ true → ds ≡ es) → Some a ∷ ds ≡ Some b ∷ es
    at (inl less) (inl more) rest = absurd (omega arith)
    at (inl less) (inr (same, h)) rest = absurd (omega arith)
    at (inr (same, h)) (inl less) rest = absurd (omega arith)
    at (inr (same, h)) (inr (equal, k)) rest = rw (same, rest h k) refl
