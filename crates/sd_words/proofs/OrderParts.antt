-- The value of `--order`, part by part.
use Rattle.std.proofs.Common.{◌≡◌, ℕ, ◌≤◌, List, [], ◌∷◌, ◌++◌, length, drop, Some, None, ap}
use Rattle.std.specs.Option.{option_and_then}
use Rattle.std.proofs.lemmas.List.{at_drop_all}
use Rattle.escapes.specs.SpelledNames.{unescaped}
use Rattle.sd_words.specs.OrderLists.{order_of, with_names, with_orders}

-- a part that is no name
pub name-none : (names : List (List ℕ)) (p : List ℕ) (ps : List (List ℕ)) → unescaped p ≡ None → with_names names (p ∷ ps) ≡ None
unfolding with_names
name-none names p ps e = ap (option_and_then (λ name. with_names (names ++ name ∷ []) ps)) e

-- one more name
pub name-new : (names : List (List ℕ)) (p : List ℕ) (ps : List (List ℕ)) (name : List ℕ) → unescaped p ≡ Some name → with_names names (p ∷ ps) ≡ with_names (names ++ name ∷ []) ps
unfolding with_names
name-new names p ps name e = ap (option_and_then (λ name. with_names (names ++ name ∷ []) ps)) e

pub names-end : (names ps : List (List ℕ)) (i : ℕ) → length ps ≤ i → with_names names (drop i ps) ≡ Some names
unfolding with_names
names-end names ps i past = at_drop_all (with_names names) ps i past

-- a part that is no order
pub order-none : (orders : List (List (List ℕ))) (p : List ℕ) (ps : List (List ℕ)) → order_of p ≡ None → with_orders orders (p ∷ ps) ≡ None
unfolding with_orders
order-none orders p ps e = ap (option_and_then (λ order. with_orders (orders ++ order ∷ []) ps)) e

-- one more order
pub order-new : (orders : List (List (List ℕ))) (p : List ℕ) (ps : List (List ℕ)) (order : List (List ℕ)) → order_of p ≡ Some order → with_orders orders (p ∷ ps) ≡ with_orders (orders ++ order ∷ []) ps
unfolding with_orders
order-new orders p ps order e = ap (option_and_then (λ order. with_orders (orders ++ order ∷ []) ps)) e

pub orders-end : (orders : List (List (List ℕ))) (ps : List (List ℕ)) (i : ℕ) → length ps ≤ i → with_orders orders (drop i ps) ≡ Some orders
unfolding with_orders
orders-end orders ps i past = at_drop_all (with_orders orders) ps i past
