-- The value of `--order`: the actors of each processor by their names.
use Rattle.std.specs.Prelude.{ℕ, ◌==◌, List, [], ◌∷◌, ◌++◌, Option, Some, option_and_then}
use Rattle.std.specs.List.{slice_split}
use Rattle.escapes.specs.SpelledNames.{unescaped}

-- the names of more parts
unfoldable pub with_names : List (List ℕ) → List (List ℕ) → Option (List (List ℕ))
with_names names [] = Some names
with_names names (p ∷ ps) = option_and_then (λ name. with_names (names ++ name ∷ []) ps) (unescaped p)

-- the order of a processor: names between commas
unfoldable pub order_of : List ℕ → Option (List (List ℕ))
order_of part = with_names [] (slice_split (λ b. b == 44) part)

-- the orders of more parts
unfoldable pub with_orders : List (List (List ℕ)) → List (List ℕ) → Option (List (List (List ℕ)))
with_orders orders [] = Some orders
with_orders orders (p ∷ ps) = option_and_then (λ order. with_orders (orders ++ order ∷ []) ps) (order_of p)

-- the orders of a value, which stand between slashes
unfoldable pub orders_of : List ℕ → Option (List (List (List ℕ)))
orders_of value = with_orders [] (slice_split (λ b. b == 47) value)
