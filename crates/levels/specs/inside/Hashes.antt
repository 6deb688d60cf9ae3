-- What a distribution feeds a hasher.
use Rattle.std.specs.Prelude.{◌≡◌, ℕ, true, Option, None, Some, List, [], ◌∷◌, ◌++◌, refl}
use Rattle.std.specs.Hash as fed
use Rattle.std.specs.List.{flat_map}
use Rattle.std.specs.declared.cmp.Ordering.{Ordering}
use Rattle.std.specs.declared.cmp.Ordering.TheVariants.{Less, Equal, Greater}
use Rattle.std.specs.Ordering.{eq_by_cmp, is_eq, nat_cmp, ordering_then}
use Rattle.std.specs.Cmp.{unsigned_tied}
use Rattle.std.proofs.Common.{sym, ap, ◌∙◌, true≢false}
use Rattle.std.proofs.lemmas.Bool.{eqb-true}
use Rattle.levels.specs.WaitingOrder.{capacities_cmp, waiting_cmp}
use Rattle.levels.specs.inside.Heads.{code_of}

-- what a capacity feeds: its code
abbrev pub capacity_input : Option ℕ → fed.HashWrites
capacity_input d = fed.u64 (code_of d)

-- equal capacities feed the same
capacities-alike : (ds es : List (Option ℕ)) → is_eq (capacities_cmp ds es) ≡ true → flat_map capacity_input ds ≡ flat_map capacity_input es
capacities-alike [] [] same = refl
capacities-alike [] (e ∷ es) same = absurd (true≢false (sym same))
capacities-alike (d ∷ ds) [] same = absurd (true≢false (sym same))
capacities-alike (None ∷ ds) (None ∷ es) same = ap (λ ws. capacity_input None ++ ws) (capacities-alike ds es same)
capacities-alike (None ∷ ds) (Some b ∷ es) same = absurd (true≢false (sym same))
capacities-alike (Some a ∷ ds) (None ∷ es) same = absurd (true≢false (sym same))
capacities-alike (Some a ∷ ds) (Some b ∷ es) same = at (nat_cmp a b) refl same (capacities-alike ds es)
  where
    at : (o : Ordering) → o ≡ nat_cmp a b → is_eq (ordering_then o (capacities_cmp ds es)) ≡ true → (is_eq (capacities_cmp ds es) ≡ true → flat_map capacity_input ds ≡ flat_map capacity_input es)
        → flat_map capacity_input (Some a ∷ ds) ≡ flat_map capacity_input (Some b ∷ es)
    at Less is here rest = absurd (true≢false (sym here))
    at Equal is here rest =
        let level : a ≡ b = eqb-true a b (sym (unsigned_tied a b) ∙ ap is_eq (sym is)) in
        ap (λ n. capacity_input (Some n) ++ flat_map capacity_input ds) level ∙ ap (λ ws. capacity_input (Some b) ++ ws) (rest here)
    at Greater is here rest = absurd (true≢false (sym here))

-- distributions that the order doesn't tell apart feed the same
pub same_input : {W : Type 0} (total : W → ℕ) (capacities : W → List (Option ℕ)) (x y : W) → eq_by_cmp (waiting_cmp total capacities) x y ≡ true → flat_map capacity_input (capacities x) ≡ flat_map capacity_input (capacities y)
same_input total capacities x y same = capacities-alike (capacities x) (capacities y) (at (nat_cmp (total x) (total y)) same)
  where
    at : (o : Ordering) → is_eq (ordering_then o (capacities_cmp (capacities x) (capacities y))) ≡ true → is_eq (capacities_cmp (capacities x) (capacities y)) ≡ true
    at Less here = absurd (true≢false (sym here))
    at Equal here = here
    at Greater here = absurd (true≢false (sym here))
